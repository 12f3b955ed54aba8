pub mod ColumnLaws
pub mod PositionLaws
pub mod CheckLaws
pub mod LayoutLaws
pub mod ModelLaws
pub mod PassLaws
pub mod WellFormedLaws
pub mod MachineLaws
