pub mod Total
pub mod Given
pub mod Near
