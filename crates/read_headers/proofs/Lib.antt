pub mod HeaderLaws
pub mod RedundancyLaws
pub mod NumberLaws
