-- The ways of the public calls.
mod Ways
