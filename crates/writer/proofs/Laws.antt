-- The laws, a file for each topic.
pub mod Taken
pub mod Lengths
pub mod Spelled
pub mod Held
pub mod Writes
pub mod Answers
pub mod Promises
pub mod Handing
pub mod Program
pub mod Onward
