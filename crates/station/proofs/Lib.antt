pub mod Exported
pub mod Fitting
pub mod Amounts
pub mod RowsFit
pub mod Answers
