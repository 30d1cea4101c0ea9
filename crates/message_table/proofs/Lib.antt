-- Laws that several proofs cite: numbers in a payload's own part and the rows of the table.
pub mod Numbers
pub mod Rows
