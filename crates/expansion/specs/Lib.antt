-- Document 02, CR 10: stored lists, and an address list with its Includes replaced by them.
pub mod Believed
pub mod Ties
