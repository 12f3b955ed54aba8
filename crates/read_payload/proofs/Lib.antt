pub mod PayloadLaws
pub mod RowFactLaws
pub mod NumberLaws
