pub mod Terms
pub mod Order
pub mod Refusals
