pub mod ReadingLaws
pub mod PlaceLaws
pub mod RowFactLaws
