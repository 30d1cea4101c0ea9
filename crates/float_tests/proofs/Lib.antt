-- Laws that several functions' proofs cite.
pub mod NumberTests
pub mod FloatTests
