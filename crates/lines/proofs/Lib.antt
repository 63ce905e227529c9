pub mod ReadLines
pub mod Collecting
pub mod Places
pub mod Cuts
