pub mod OneRead
