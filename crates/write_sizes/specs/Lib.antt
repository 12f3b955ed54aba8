pub mod Asking
pub mod Measures
