-- Laws of expansion. `ExpansionLaws` and `WithoutInclude` have what is promised of the definition, `WalkLaws` that one walk writes its
-- plain text, `WalkRuns` and `EntryLaws` what the code rests on, `Examples` the examples of the request.
pub mod TreeExpansion
pub mod ExpansionLaws
pub mod WithoutInclude
pub mod Seeking
pub mod WalkThrough
pub mod WalkLaws
pub mod StoreLaws
pub mod SeekSteps
pub mod LevelLaws
pub mod AddressTexts
pub mod Examples
pub mod IncludeLaws
pub mod OpeningLaws
pub mod WalkRuns
pub mod EntryLaws
