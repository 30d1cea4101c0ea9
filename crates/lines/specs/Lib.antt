-- The lines that a call script's records print.
pub mod Lines
