pub mod Parts
pub mod Nests
pub mod Promise
