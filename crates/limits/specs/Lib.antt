-- What the contracts of the limits cite beside the rules.
pub mod Codes
pub mod Kinds
