pub mod Facts
pub mod Types
pub mod Policies
pub mod Pointers
pub mod Named
pub mod Numbered
pub mod Steps
