pub mod Key
pub mod Sorted
pub mod DueOrder
pub mod DueSums
pub mod CanonicalKey
