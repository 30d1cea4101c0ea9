-- What the contracts of answering a message cite.
pub mod Covers
pub mod Handlers
