pub mod RowLaws
pub mod GroupLaws
pub mod TableLaws
pub mod FirstLaws
pub mod ExactLaws
pub mod FittingLaws
