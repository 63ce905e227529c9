pub mod Best
pub mod Look
