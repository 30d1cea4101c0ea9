-- The lines of a dump.
pub mod Plans
pub mod Dumps
