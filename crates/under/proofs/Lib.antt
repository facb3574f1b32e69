pub mod UnderLaws
pub mod EntryLaws
pub mod WindowLaws
pub mod RunsInRunsLaws
pub mod GatheredLaws
