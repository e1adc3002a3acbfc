-- To be believed. Document 01, "Dates": what a date is, and the moment that it says.
pub mod Names
pub mod Parts
pub mod Grammar
pub mod Calendar
pub mod Answers
pub mod ByGrammar
pub mod Outcome
