pub mod Refusals
pub mod Texts
pub mod Measures
pub mod Outcomes
pub mod Jobs
pub mod Reports
