-- What every message and timer call does and answers, over the records of the state, mirroring the code; crate `refine` shows that it is the rules' step.
pub mod Answers
pub mod Shown
pub mod Doing
