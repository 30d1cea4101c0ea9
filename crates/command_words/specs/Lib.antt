-- Commands in words.
pub mod Commands
