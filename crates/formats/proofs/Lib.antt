pub mod TableRule
pub mod FormatLaws
pub mod NumberLaws
