pub mod HeadLaws
pub mod WriteLaws
