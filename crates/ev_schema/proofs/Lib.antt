pub mod BoundLaws
pub mod NumberLaws
