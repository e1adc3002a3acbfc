-- What the vectors of the project say, and what is put for each.
pub mod Believed
pub mod Ties
