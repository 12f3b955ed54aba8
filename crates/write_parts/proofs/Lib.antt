pub mod WordLaws
pub mod ListsLaws
pub mod HeadingLaws
