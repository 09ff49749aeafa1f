pub mod Ratios
pub mod Worth
pub mod Rows
pub mod Fits
pub mod Arrays
pub mod Words
