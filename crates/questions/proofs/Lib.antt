pub mod SeenLaws
pub mod PlanLaws
