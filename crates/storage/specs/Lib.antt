-- What is kept in the store and fetched from it.
pub mod Kept
