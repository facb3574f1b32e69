pub mod FindLaws
pub mod SaidLaws
pub mod ToldLaws
pub mod AnswerLaws
pub mod Theorems
pub mod Examples
