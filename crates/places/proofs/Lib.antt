pub mod KeyLaws
pub mod TableLaw
