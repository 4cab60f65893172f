pub mod ReadBack
pub mod Answered
pub mod Built
pub mod Keeping
pub mod ReadTrees
