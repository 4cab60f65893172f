pub mod Subjects
pub mod Numbers
pub mod EmptySets
