pub mod Answers
pub mod ReceptionAnswers
pub mod LogAnswers
