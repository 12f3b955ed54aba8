pub mod Packets
pub mod Room
