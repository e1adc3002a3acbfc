-- To be believed. Document 01, "Checked examples": what the program prints for a message.
pub mod Lines
pub mod Listing
