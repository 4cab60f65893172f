pub mod Recursion
pub mod Bases
pub mod Statements
