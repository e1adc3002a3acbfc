-- To be believed. Document 01, "Addresses": what the address reader answers, and condition 3.
pub mod Editions
pub mod Outcome
pub mod Condition3
pub mod Within
