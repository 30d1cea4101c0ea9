-- Where items stand in a store of a form, and the laws of places and writes.
pub mod Part
pub mod Forms
pub mod Places
pub mod Writes
pub mod Carried
pub mod Stored
pub mod KindItems
