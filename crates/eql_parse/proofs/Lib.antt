pub mod Depth
pub mod Eager
pub mod EagerExprs
pub mod Few
pub mod Queries
