pub mod RequestLaws
pub mod PlannedLaws
pub mod MeasureLaws
