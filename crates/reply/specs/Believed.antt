-- To be believed. Document 01, "Reply body".
pub mod Reply
