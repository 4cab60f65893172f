pub mod Expression
pub mod Name
