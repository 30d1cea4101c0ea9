-- What the contracts of this crate cite besides the rules.
pub mod PlanItems
pub mod Orders
pub mod Meeting
