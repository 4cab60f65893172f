pub mod BaseLaws
pub mod Dressing
pub mod Extending
pub mod Aliases
pub mod Clauses
