pub mod Cuts
pub mod Front
pub mod Keywords
pub mod Ranks
pub mod Readings
pub mod Runs
