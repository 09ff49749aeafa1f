pub mod Answered
pub mod Triangle
pub mod Ring
