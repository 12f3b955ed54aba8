pub mod Sizes
pub mod Sequence
