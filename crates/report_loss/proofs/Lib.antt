pub mod SignedLaws
pub mod ReportLaws
