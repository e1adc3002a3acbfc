-- To be believed. Document 01, "Symbols": how the bytes of a structured body become symbols, or a fault.
pub mod Symbols
pub mod Kinds
pub mod Characters
pub mod Scanning
pub mod Answers
pub mod Categories
pub mod Apart
