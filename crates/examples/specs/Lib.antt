-- Document 01, "Checked examples": the table, and the statement over its rows.
pub mod Believed
