pub mod TallyLaws
pub mod StepLaws
pub mod SweepLaws
pub mod GoingLaws
pub mod LeaveLaws
