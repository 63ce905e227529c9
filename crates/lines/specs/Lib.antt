pub mod Numbers
pub mod Part
pub mod Ends
