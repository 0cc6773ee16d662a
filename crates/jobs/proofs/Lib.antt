pub mod Plans
pub mod Passed
pub mod MapRows
