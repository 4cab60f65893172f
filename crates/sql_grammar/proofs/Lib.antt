pub mod Ids
pub mod Sets
pub mod Exprs
pub mod Selects
pub mod Levels
pub mod Promise
