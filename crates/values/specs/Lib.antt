-- What the contracts of this crate cite besides the rules, and laws of it.
pub mod Wholes
pub mod Integers
