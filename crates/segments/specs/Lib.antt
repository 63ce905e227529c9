pub mod Given
pub mod Segmented
