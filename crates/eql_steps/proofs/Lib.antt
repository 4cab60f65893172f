pub mod Placed
mod Members
mod Sources
mod Reached
mod Rises
