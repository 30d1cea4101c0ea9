-- What the contracts of writing cite beside the rules.
pub mod Written
