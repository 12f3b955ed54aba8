pub mod Logs
pub mod Claims
pub mod EditionClaims
