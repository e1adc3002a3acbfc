-- RFC 733: `Condition3` has the theorems, `Readers` and `TreeRecords` what the readers rest on.
pub mod Trees
pub mod HouseRule
pub mod Complete
pub mod Sound
pub mod Steps
pub mod Derivations
pub mod Condition3
pub mod Readers
pub mod TreeRecords
pub mod Order
pub mod Examples
