-- Document 01, "Dates": what a date is, and the moment that it says.
pub mod Believed
pub mod Executable
pub mod Ties
