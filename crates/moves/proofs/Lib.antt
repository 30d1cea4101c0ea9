-- What the moved plans show, and the ways of the move.
pub mod Moving
pub mod Same
mod Ways
