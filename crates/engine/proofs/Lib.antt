-- Laws of the second address reader. `SameLaws` has what document 02 asks, `MachineLaws` that the table is right.
pub mod SameLaws
pub mod ActionLaws
pub mod MachineLaws
pub mod LevelLaws
pub mod ArrayLaws
pub mod TurnLaws
pub mod Dispatch
pub mod CodeLaws
pub mod LoopLaws
pub mod ExpectingLaws
