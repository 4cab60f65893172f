pub mod Ahead
pub mod Schemas
