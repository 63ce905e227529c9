pub mod RowLaws
mod StoreLaws
mod EntryLaws
