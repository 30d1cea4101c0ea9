-- The steps of one kind's upload over the state's records, mirroring the code, and the state after what a call does.
pub mod Faults
pub mod Turns
pub mod Effects
