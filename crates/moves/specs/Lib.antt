-- The move from bytes to words.
pub mod Moves
pub mod Outcome
pub mod Moving
pub mod Cases
