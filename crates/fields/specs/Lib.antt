-- What the contracts and the proofs over numbers in bytes cite.
pub mod Numbers
pub mod Packed
