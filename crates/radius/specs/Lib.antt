pub mod Panel
pub mod Radius
pub mod Claims
