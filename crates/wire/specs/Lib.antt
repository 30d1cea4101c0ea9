-- What the contracts of reading and writing cite beside the rules.
pub mod Structs
