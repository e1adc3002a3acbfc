-- Every row of document 01's checked examples holds.
pub mod Examples
