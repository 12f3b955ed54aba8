pub mod Sizes
pub mod WellFormed
pub mod Jitter
pub mod Calls
