pub mod Pascal
pub mod Columns
pub mod Rounds
pub mod Tables
pub mod AreNets
