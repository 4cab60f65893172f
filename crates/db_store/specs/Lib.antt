pub mod Objects
pub mod Limits
pub mod Fits
