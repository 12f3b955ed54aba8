pub mod Formats
pub mod Frames
pub mod Room
