-- Rows of numbers.
pub mod Rows
pub mod Flags
