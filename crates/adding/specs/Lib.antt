-- What the contracts of text in lent buffers cite, and its laws.
pub mod Added
pub mod Laws
pub mod Parts
pub mod Slices
