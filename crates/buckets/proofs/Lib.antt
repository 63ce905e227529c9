pub mod LevelLaws
pub mod ReachLaws
pub mod StretchLaws
pub mod SegmentLaws
pub mod FourLaws
