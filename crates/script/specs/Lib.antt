-- The form of call scripts.
pub mod Kinds
pub mod Records
