pub mod Sizes
pub mod Pairs
pub mod Copies
pub mod Entries
pub mod Verdicts
pub mod Lists
