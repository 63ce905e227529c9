pub mod Put
pub mod Answered
