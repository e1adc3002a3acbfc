-- Document 02, CR 3: what could have stood at the place of a refusal.
pub mod Believed
pub mod Executable
