pub mod GatherLaws
pub mod DrainLaws
pub mod OrderLaws
