-- Document 01, "Symbols": how the bytes of a structured body become symbols, or a fault.
pub mod Believed
pub mod Ties
