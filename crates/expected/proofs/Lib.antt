pub mod ClassAlone
pub mod NameLaws
pub mod Examples
