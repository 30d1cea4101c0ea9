-- Laws that serve the proofs of several functions.
mod Requests
