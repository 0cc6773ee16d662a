pub mod Cells
pub mod Tables
pub mod Replaced
