pub mod Judge
pub mod Entry
pub mod Numbers
pub mod Written
