-- That every case of the tables in specs/Cases/ holds.
pub mod Starred
pub mod Readings
pub mod Guards
pub mod Bounds
pub mod Words
pub mod Partial
pub mod Home
