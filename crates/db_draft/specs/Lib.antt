pub mod First
pub mod Members
pub mod Values
pub mod Told
