pub mod Places
pub mod Bytes
pub mod Lists
pub mod Dots
pub mod Figures
pub mod Shades
pub mod Pictures
pub mod Rectangles
