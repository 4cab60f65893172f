pub mod Holds
pub mod Everywhere
