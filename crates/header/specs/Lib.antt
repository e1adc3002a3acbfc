-- What document 01 says of fields and of known field names.
pub mod Believed
pub mod Ties
