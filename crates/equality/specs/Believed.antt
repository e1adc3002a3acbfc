-- To be believed. Document 02, CR 14: equal cards mean equal addresses, and comments do not count.
pub mod Cards
pub mod Comments
pub mod Exchange
