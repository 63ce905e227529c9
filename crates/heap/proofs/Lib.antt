pub mod ArrayLaws
pub mod HeapLaws
pub mod MoveLaws
