pub mod Crowded
