pub mod Lists
pub mod Orders
pub mod Passes
pub mod Turns
