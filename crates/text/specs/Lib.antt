-- What the contracts of numbers as text cite.
pub mod Digits
pub mod Numbers
pub mod Words
