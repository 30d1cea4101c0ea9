-- What the contracts of the table cite beside the rules.
pub mod Table
