pub mod CheckedTable
pub mod Places
