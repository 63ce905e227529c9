pub mod AllLaws
pub mod SendLaws
