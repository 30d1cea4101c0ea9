-- What a host does between the calls.
pub mod Pokes
pub mod Items
