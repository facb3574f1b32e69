pub mod WalkLaws
pub mod OverLaws
pub mod OpenLaws
pub mod ExtractLaws
