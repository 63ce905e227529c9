pub mod JudgeLaws
pub mod TableLaws
pub mod ByHead
pub mod ReadLaws
pub mod CountLaws
pub mod ScanLaws
pub mod PlacesLaws
