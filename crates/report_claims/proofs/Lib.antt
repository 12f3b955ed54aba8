pub mod WellFormedTheorem
pub mod RangeTheorem
pub mod RowTheorem
