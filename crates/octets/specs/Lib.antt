-- What document 01 says of single bytes, of numbers stored in bytes, and of an answer.
pub mod Believed
pub mod Ties
