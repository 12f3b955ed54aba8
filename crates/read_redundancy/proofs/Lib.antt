pub mod AnswerLaws
pub mod BlockLaws
pub mod SplitLaws
pub mod AskedLaws
