pub mod Parts
pub mod Nests
pub mod Turns
pub mod Promise
