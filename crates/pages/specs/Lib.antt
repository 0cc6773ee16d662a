pub mod Faults
pub mod Layers
pub mod Pages
