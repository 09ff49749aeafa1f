pub mod Listed
pub mod Factors
pub mod Rates
pub mod Calls
pub mod Primal
pub mod Printed
pub mod Lawful
