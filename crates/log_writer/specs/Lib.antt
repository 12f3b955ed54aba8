pub mod FieldBytes
pub mod Writings
pub mod Room
