pub mod Bytes
pub mod Writings
pub mod Room
