pub mod Plans
pub mod Folds
