-- The ways of the calls.
pub mod Ways
