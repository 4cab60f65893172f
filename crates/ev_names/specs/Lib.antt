pub mod Names
pub mod Scalar
