pub mod BoundLaws
pub mod NumberLaws
pub mod SearchLaws
