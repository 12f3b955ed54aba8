pub mod FromLaws
pub mod ListBytesLaws
pub mod PutLaws
pub mod ListPartLaws
pub mod SendingLaws
