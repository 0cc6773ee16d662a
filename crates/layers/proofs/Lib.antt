mod Prefixes
mod Mapped
pub mod Chosen
