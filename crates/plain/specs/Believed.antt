-- To be believed. Document 01, "Plain writing", and condition 2: what an address list means, its plain text, and the round trip.
pub mod Meaning
pub mod PlainText
pub mod RoundTrip
pub mod Condition2
pub mod Written
