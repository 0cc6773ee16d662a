pub mod Bytes
pub mod Refusals
pub mod Audits
pub mod Loads
