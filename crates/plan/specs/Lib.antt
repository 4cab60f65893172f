pub mod Plan
pub mod Ruled
pub mod Laws
