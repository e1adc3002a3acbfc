-- To be believed. Document 02, CR 10: stored lists, and an address list with its Includes replaced by them.
pub mod Store
pub mod Expansion
pub mod Outcome
pub mod Promises
