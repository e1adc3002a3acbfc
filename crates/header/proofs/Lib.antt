-- Laws of headers that crates above cite.
pub mod ByteLaws
pub mod HeaderLaws
pub mod FieldLaws
pub mod ReadBack
pub mod StepLaws
pub mod SplitLaws
pub mod NameLaws
pub mod RowLaws
pub mod CandidateLaws
pub mod NameExamples
