-- What documents 01 and 02 say of records: their layout, the records themselves, and tables of them.
pub mod Believed
pub mod Ties
