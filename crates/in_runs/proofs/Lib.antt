pub mod RecoveringLaws
pub mod PassLaws
pub mod UnderRunLaws
pub mod CountLaws
pub mod SumLaws
pub mod SkipLaws
pub mod FillLaws
