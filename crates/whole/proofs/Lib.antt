pub mod LeadLaws
pub mod WholeLaws
pub mod SendLaws
