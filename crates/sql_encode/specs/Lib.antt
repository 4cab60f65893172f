pub mod Sources
pub mod Shapes
pub mod Rows
