pub mod LeapLaws
