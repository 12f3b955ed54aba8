pub mod RunLaws
pub mod GapLaws
pub mod EntryLaws
pub mod TableLaws
pub mod FrameBytesLaws
pub mod PayloadLaws
pub mod WritingLaws
