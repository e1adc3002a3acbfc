-- Laws of the grammar: for any grammar and machine, of the symbols of both editions, for RFC 733's, for RFC 822's; and of the records that are stored in a table.
pub mod Any
pub mod Symbols
pub mod Rfc733
pub mod Rfc822
pub mod RecordLaws
