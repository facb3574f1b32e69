pub mod Driven
pub mod Entries
