pub mod Runs
pub mod Claims
pub mod WellFormedClaims
pub mod VerdictClaims
pub mod DrawClaims
pub mod CheckedTable
