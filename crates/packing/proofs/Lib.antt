pub mod Said
pub mod Unpack
