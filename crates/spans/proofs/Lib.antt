pub mod Order
pub mod Products
pub mod Sound
