-- What the contracts of the public calls cite.
pub mod Calls
