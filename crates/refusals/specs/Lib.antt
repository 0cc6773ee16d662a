pub mod Told
pub mod Checks
pub mod Texts
