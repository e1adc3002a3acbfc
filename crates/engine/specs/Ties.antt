-- Ties between code and definitions: what the functions below the entry points do. Nothing here needs to be believed.
pub mod Actions
pub mod Stands
pub mod Turns
pub mod Expecting
