pub mod LayingLaws
pub mod NumberLaws
pub mod TallyLaws
