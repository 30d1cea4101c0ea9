-- Demand 3 over the rules alone: uploads told by the list of calls, what takes effect, what that means in plain terms, and that home is never flown.
pub mod Uploads
pub mod Tracks
pub mod Rules
pub mod Corollaries
pub mod Home
pub mod Worked
pub mod Laws
