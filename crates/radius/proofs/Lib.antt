pub mod Counts
pub mod Strips
pub mod Panel
pub mod Closeness
pub mod Sums
