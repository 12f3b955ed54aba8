pub mod Columns
pub mod Model
pub mod Arrays
pub mod Layout
pub mod WellFormed
pub mod Checks
