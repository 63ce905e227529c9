pub mod Head
pub mod Numbers
