pub mod Readings
pub mod Keepers
