pub mod OpLaws
pub mod WriteLaws
