pub mod Coats
pub mod Steps
pub mod Nears
pub mod Strikes
pub mod Promises
pub mod Runs
