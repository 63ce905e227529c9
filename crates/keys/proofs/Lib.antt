pub mod KeyLaws
pub mod DueOrder
pub mod DueSums
pub mod CanonicalKey
pub mod SliceLaws
