pub mod Fractions
pub mod Reduced
pub mod Least
pub mod Powers
pub mod Exponents
