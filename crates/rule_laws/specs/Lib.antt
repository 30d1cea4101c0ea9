-- Laws of the rules' definitions, proved here once for the crates above; reading back, also of words; that stored plans stay valid; what a reading as a whole number
-- means; and that home is asked of flight plans alone. Who reads the rules can pass the laws over.
pub mod Tests
pub mod Lists
pub mod Numbers
pub mod Trim
pub mod Layout
pub mod Decode
pub mod Kinds
pub mod Tasks
pub mod Whole
pub mod Written
pub mod Heard
pub mod Brought
pub mod Fitting
pub mod Fitted
pub mod Replies
pub mod Refused
pub mod StayValid
pub mod Valid
pub mod OtherKinds
pub mod Wholes
pub mod ReadBack
pub mod Words
