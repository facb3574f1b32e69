pub mod JudgeLaws
pub mod ListOutLaws
pub mod RunOutLaws
