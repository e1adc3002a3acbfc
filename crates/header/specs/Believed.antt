-- To be believed. What document 01 says of fields and of known field names.
pub mod Fields
pub mod Split
pub mod Names
