-- The refusals as one number, and what a call that is not refused says.
pub mod Refusals
