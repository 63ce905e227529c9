pub mod Reach
pub mod Stretch
