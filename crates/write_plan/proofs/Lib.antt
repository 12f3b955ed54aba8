pub mod ListLaws
pub mod NumberLaws
pub mod EntriesLaws
pub mod PlanLaws
pub mod BlockLaws
