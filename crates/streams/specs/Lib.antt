-- What the contracts of standard input and output cite.
pub mod Sent
pub mod Unread
pub mod Laws
