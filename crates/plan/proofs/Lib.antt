pub mod QueueLaws
pub mod ChosenLaws
pub mod PlanLaws
pub mod LentLaws
