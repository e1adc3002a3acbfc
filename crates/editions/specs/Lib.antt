-- Document 02, CR 11: what the address reader answers when it is told the edition, and the loop that reads RFC 822.
pub mod Believed
pub mod Ties
