-- Document 01, "Checked examples": what the program prints for a message.
pub mod Believed
pub mod Ties
