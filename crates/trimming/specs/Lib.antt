-- What the contract of trimming cites beside the rules.
pub mod Written
pub mod Last
