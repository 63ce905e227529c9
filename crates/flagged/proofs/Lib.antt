pub mod PlannedLaws
