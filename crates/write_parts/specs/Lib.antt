pub mod Parts
pub mod Headings
pub mod ListSizes
