pub mod Header
pub mod Redundancy
