-- The code's step commutes with `view`: what a state and a store show after it is the rules' step of what they showed before.
pub mod After
pub mod Views
pub mod Turned
pub mod Named
pub mod Items
pub mod Messages
pub mod Promise
pub mod Steps
pub mod Serving
pub mod Front
