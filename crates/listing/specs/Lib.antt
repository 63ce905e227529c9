pub mod Entries
pub mod Listing
