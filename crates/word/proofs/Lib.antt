pub mod NumLaws
pub mod SelectWord
pub mod HoleLaws
pub mod CloseLaws
pub mod CollectingLaws
