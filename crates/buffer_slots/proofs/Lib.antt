pub mod BitLaws
pub mod WordLaws
pub mod FreeLaws
