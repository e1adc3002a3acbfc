-- Laws of what is printed.
pub mod DigitLaws
pub mod SignLaws
pub mod LineLaws
pub mod TableLaws
pub mod BodyLaws
pub mod WholeLaws
pub mod WindowLaws
pub mod Examples
