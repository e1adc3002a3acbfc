-- What holds for any grammar and any machine: a right verdict is the only one (`OnlyRight`), also in terms of other derivations (`Alike`), what a machine has to show (`Machine`, `Sound`, `Arrows`, `Reader`),
-- derivations as trees (`Pieces`), a bound for levels (`Ranks`), and records of any derivation (`Records`, `Silent`, `Positions`, `Order`).
pub mod OnlyRight
pub mod Alike
pub mod Machine
pub mod Sound
pub mod Reader
pub mod Pieces
pub mod Arrows
pub mod Ranks
pub mod Records
pub mod Silent
pub mod Positions
pub mod Order
