-- rounds
pub mod Limits
pub mod Rows
pub mod Plan
pub mod Steps
-- tables, calls and lines
pub mod Table
pub mod Calls
pub mod Looking
pub mod Lines
pub mod Reads
-- what is owed
pub mod Conditions
pub mod PlanM
pub mod StepsOf
pub mod Demands
pub mod Sealed
pub mod Classes
pub mod Hindsight
