pub mod Lanes
pub mod Lowest
