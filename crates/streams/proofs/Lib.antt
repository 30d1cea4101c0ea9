-- Laws that the proofs cite.
mod Moving
