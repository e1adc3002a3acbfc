-- Laws of records that crates above cite.
pub mod LayoutLaws
pub mod TableLaws
pub mod ReadBack
pub mod EndLaws
pub mod Examples
