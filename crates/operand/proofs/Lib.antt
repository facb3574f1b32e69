pub mod Quotient
pub mod ClimbLaws
pub mod WeighLaws
pub mod FlatLaws
pub mod NumberLaws
pub mod PairLaws
