pub mod Commands
pub mod Kinds
pub mod Lines
pub mod Sessions
pub mod Texts
