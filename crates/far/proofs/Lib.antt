pub mod BeginLaws
pub mod FarLaws
pub mod AskLaws
