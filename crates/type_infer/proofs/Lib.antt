pub mod Refusals
pub mod Equations
pub mod Firsts
pub mod Turns
pub mod Promised
pub mod Cases
pub mod ByCases
