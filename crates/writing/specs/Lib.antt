-- Bytes and words written over others.
pub mod Written
