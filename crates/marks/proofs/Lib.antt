pub mod DrivenLaws
pub mod ListLaws
pub mod EntryLaws
