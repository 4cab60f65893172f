pub mod Steps
pub mod ById
pub mod Index
