pub mod Folds
pub mod ItemTurns
pub mod Occurrences
pub mod OrderLaws
pub mod Sums
