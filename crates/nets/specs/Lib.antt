pub mod Sums
pub mod Digits
pub mod Places
pub mod Points
pub mod Refusals
pub mod Plans
pub mod Rounds
