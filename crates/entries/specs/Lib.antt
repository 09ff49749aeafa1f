pub mod Outcomes
pub mod Standings
pub mod Names
