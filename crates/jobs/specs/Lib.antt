pub mod Layout
pub mod Checks
pub mod Refusals
pub mod Jobs
pub mod Inner
