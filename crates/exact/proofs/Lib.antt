pub mod Heads
pub mod Exact
pub mod Loop
pub mod Laws
pub mod Whole
pub mod Turns
pub mod Single
