pub mod Order
pub mod Patterns
pub mod Equal
pub mod Turning
pub mod Dyadic
