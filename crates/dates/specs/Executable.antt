-- The executable layer: what can be computed of a grammar. Nothing here needs to be believed: beside it stands the proposition that it is the only right one.
pub mod Form
