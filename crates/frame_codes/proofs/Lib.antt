pub mod CodeLaws
pub mod AmrLaws
pub mod AllowedLaws
