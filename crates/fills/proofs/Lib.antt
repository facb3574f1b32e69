pub mod FillLaws
pub mod LayLaws
pub mod ListLaws
