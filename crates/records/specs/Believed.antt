-- To be believed. What documents 01 and 02 say of records: their layout, the records themselves, and tables of them.
pub mod Layout
pub mod FieldRecords
pub mod AddressRecords
