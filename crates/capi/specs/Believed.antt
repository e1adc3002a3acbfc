-- To be believed. What the C functions tell of document 01's answers.
pub mod Told
