pub mod DepositLaws
pub mod RankLaws
pub mod WholeLaws
