pub mod TestLaws
pub mod AreaLaws
pub mod ByteLaws
pub mod ErrorLaws
pub mod RefusalLaws
pub mod RangeLaws
pub mod StoreLaws
