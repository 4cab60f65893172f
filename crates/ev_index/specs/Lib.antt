pub mod First
pub mod Globals
pub mod Index
