pub mod Sequences
pub mod Columns
