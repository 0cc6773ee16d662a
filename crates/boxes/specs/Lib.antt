pub mod Rows
pub mod Columns
pub mod Replaced
