pub mod Sets
pub mod Exprs
pub mod Turning
pub mod Ifs
pub mod Statements
pub mod Levels
pub mod Promise
