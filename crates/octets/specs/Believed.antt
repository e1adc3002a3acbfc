-- To be believed. What document 01 says of single bytes, of numbers stored in bytes, and of an answer.
pub mod Choice
pub mod Tests
pub mod Text
pub mod Octets
pub mod Numbers
pub mod Classes
pub mod Letters
pub mod Stored
pub mod Answers
pub mod Fitting
