-- Laws of document 02, CR 14, and of CR 2: `DataLaws`.
pub mod ByteMoves
pub mod InComments
pub mod Splits
pub mod LastBytes
pub mod Pairs
pub mod Shifts
pub mod Through
pub mod EveryComment
pub mod Exchanges
pub mod Relabels
pub mod Verdicts
pub mod AlikeBodies
pub mod CardLaws
pub mod CommentLaws
pub mod DataLaws
pub mod Examples
