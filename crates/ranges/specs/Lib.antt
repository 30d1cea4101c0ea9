-- The ranges over a state, and what they say of a plan.
pub mod Ranges
pub mod Ranged
