-- To be believed. Document 01, "Addresses": the address rules as a grammar, what condition 3 says, and the records of a derivation.
pub mod Grammar
pub mod Language
pub mod Rfc733
pub mod Rfc822
pub mod Records
