-- Document 01, "Plain writing", and condition 2: what an address list means, its plain text, and the round trip.
pub mod Believed
pub mod Ties
