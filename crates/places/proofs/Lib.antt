-- What is proved of the form of words, and of reading items in it.
pub mod Lawful
pub mod Reading
