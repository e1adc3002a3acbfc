-- Laws of the reader of RFC 822. `Follows`, `WalkRecords` and `Verdicts` are about the loop's definition, `Judgements` about
-- the editions' definition, the others about code.
pub mod Follows
pub mod WalkRecords
pub mod Verdicts
pub mod StepLaws
pub mod LoopLaws
pub mod LevelLaws
pub mod EditionLaws
pub mod Examples
pub mod Judgements
