pub mod Choices
pub mod Shaping
pub mod Resolving
pub mod Verdict
