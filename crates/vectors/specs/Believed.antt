-- To be believed. How a line of vectors is read, and what is put for it.
pub mod Putting
pub mod Reading
pub mod Answers
pub mod Vectors
