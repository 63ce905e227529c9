pub mod Readings
pub mod ListFilled
pub mod Listings
pub mod EntriesFit
pub mod PlanShape
