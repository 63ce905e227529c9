pub mod Substitute
