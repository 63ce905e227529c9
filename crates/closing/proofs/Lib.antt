pub mod HeadLaws
pub mod CloseLaws
pub mod EndLaws
