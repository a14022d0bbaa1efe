-- The laws of settling, a file for each topic.
pub mod Sizes
pub mod Turns
pub mod Shut
pub mod Passes
pub mod Running
pub mod Ends
pub mod Settled
pub mod Resting
pub mod Checked
pub mod Accepted
pub mod Refusals
pub mod Called
pub mod Repeated
pub mod Orders
pub mod Answers
pub mod Known
