pub mod EntrySpanLaws
pub mod AlikeLaws
pub mod KeepLaws
