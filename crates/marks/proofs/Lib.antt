pub mod TotalLaws
pub mod KeptLaws
pub mod FindLaws
pub mod NearLaws
pub mod AskLaws
