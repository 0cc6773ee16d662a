pub mod Counts
pub mod Intervals
pub mod Words
pub mod Coordinates
pub mod Points
pub mod BitLengths
