pub mod EntryLaws
pub mod ContentsLaws
pub mod NumberLaws
