pub mod Far
