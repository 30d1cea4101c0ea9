-- What the contracts of answering cite.
pub mod Answered
