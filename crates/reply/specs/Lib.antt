-- Document 01, "Reply body".
pub mod Believed
