-- Laws of plain texts. `RoundTrips` has the theorems of condition 2, `Walks` what the code rests on, `Examples` the table of texts.
pub mod TreeMeanings
pub mod ByteKinds
pub mod Writable
pub mod Reading
pub mod Growing
pub mod ScannedWords
pub mod Walks
pub mod RoundTrips
pub mod Examples
pub mod WalkSteps
pub mod TextBounds
pub mod PlainLaws
pub mod CanWrite
pub mod Sinks
