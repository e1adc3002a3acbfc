-- Document 02, CR 3: what a touched byte is, the records around it, and what could have stood where a body is refused.
pub mod Believed
pub mod Ties
