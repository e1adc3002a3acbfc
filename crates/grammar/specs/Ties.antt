-- Ties between code and definitions. Nothing here needs to be believed.
pub mod Kinds
