pub mod Spelling
pub mod Filling
pub mod Room
