pub mod Limits
pub mod Faults
pub mod Trees
pub mod Ties
pub mod Tells
pub mod Views
pub mod Calls
pub mod Runs
