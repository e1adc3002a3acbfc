-- Document 01, "Addresses": what the address reader answers, and condition 3.
pub mod Believed
pub mod Ties
