pub mod Rows
pub mod Buckets
pub mod Scan
pub mod Judge
