-- RFC 822: `Condition3` has the theorems.
pub mod Derivations
pub mod Machine
pub mod Complete
pub mod Condition3
