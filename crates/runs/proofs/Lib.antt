pub mod PairLaws
pub mod WeighLaws
pub mod LayLaws
pub mod SearchLaws
pub mod FoundLaws
