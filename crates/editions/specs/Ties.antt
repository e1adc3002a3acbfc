-- Ties between code and definitions: what the functions below the entry points do. Nothing here needs to be believed.
pub mod Numbers
pub mod Places
pub mod Walks
