pub mod Records
pub mod Losers
