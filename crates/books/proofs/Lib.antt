pub mod ChunkLaws
pub mod GatherLaws
pub mod RunBitLaws
