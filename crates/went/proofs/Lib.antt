pub mod StandLaws
pub mod LeaveLaws
pub mod SendLaws
