pub mod FitsLaws
pub mod EntriesLaws
