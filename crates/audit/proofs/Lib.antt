mod Flags
pub mod Accepts
pub mod Asked
