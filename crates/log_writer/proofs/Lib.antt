pub mod FieldBytesLaws
pub mod RowsLaws
pub mod WritingLaws
