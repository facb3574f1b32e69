pub mod OutsideLaws
pub mod Theorems
