-- The laws, a file for each topic.
pub mod Narrowing
pub mod Answers
pub mod Promises
pub mod Turns
