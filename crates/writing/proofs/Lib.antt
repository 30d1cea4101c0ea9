-- Laws that the proofs cite.
mod Ways
mod WordWays
