-- Laws that the proofs of judging use.
pub mod Room
pub mod Faults
