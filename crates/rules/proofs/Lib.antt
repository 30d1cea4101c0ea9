-- What is proved of the rules: every case of the tables holds.
pub mod Cases
