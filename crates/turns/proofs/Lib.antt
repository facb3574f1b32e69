pub mod TurnedLaws
pub mod WrittenLaws
pub mod ListTurnLaws
pub mod SumLaws
