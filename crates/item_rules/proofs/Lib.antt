-- Laws that several functions' proofs cite.
pub mod Lookup
pub mod Readings
