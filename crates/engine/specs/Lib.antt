-- The second address reader: what it has to do with the first; its table; what its numbers and its array stand for; and what
-- could stand where it stops.
pub mod Believed
pub mod Ties
