pub mod FindLaws
pub mod StandLaws
