pub mod Measure
pub mod Trees
pub mod Rules
pub mod Brought
pub mod Weight
pub mod Depth
pub mod Heavy
pub mod Capped
