pub mod PlanLaws
pub mod WholeLaws
