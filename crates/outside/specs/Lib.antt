pub mod First
pub mod Spans
pub mod Walks
