pub mod Chunks
pub mod Gathers
pub mod Windows
