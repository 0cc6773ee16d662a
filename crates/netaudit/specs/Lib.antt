pub mod Verdicts
pub mod Texts
