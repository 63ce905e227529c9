pub mod Cases
pub mod Small
pub mod Forms
