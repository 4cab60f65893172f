pub mod Equations
pub mod Parts
pub mod Promised
