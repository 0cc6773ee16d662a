pub mod Packed
pub mod Drawn
pub mod Told
