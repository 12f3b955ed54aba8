pub mod CallLaws
pub mod DrawLaws
