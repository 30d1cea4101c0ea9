-- An item's step over the plan's records and the store, mirroring the code; crate `refine` shows that it is the rules' step.
pub mod Judging
