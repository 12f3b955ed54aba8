pub mod Codes
pub mod Allowed
