-- To be believed. Document 02, CR 3: what a touched byte is, the records around it, and what could have stood where a body is refused.
pub mod Around
pub mod Answers
pub mod Touched
pub mod ByGrammar
pub mod EveryByte
