pub mod Cases
pub mod FormLaws
