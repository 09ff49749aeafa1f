pub mod Bounds
pub mod Combining
pub mod Ranges
pub mod Values
pub mod Spans
