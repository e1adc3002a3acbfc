-- Laws of document 02, CR 3.
pub mod ClimbLaws
pub mod Nesting
pub mod AroundLaws
pub mod TouchLaws
pub mod EveryByte
pub mod LastLaws
