pub mod Sets
pub mod Exact
pub mod Promise
pub mod Depth
