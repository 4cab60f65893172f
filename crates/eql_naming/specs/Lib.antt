pub mod Names
pub mod Around
pub mod Naming
pub mod Paths
pub mod Forms
pub mod Shapes
pub mod Statements
