pub mod Sums
mod Firsts
