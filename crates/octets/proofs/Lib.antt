-- Laws that several crates cite.
pub mod ChoiceLaws
pub mod AnswerLaws
pub mod Tables
pub mod TableRows
pub mod ClassLaws
pub mod LetterLaws
pub mod LineLaws
pub mod StoredLaws
pub mod Parts
pub mod Writes
