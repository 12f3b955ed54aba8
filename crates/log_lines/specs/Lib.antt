pub mod LineTexts
pub mod FrameCounts
