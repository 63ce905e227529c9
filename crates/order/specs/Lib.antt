pub mod Gather
pub mod Drain
pub mod Ordered
