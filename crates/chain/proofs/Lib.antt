pub mod MarkLaws
pub mod MoveLaws
mod ChainLaws
mod ShiftLaws
