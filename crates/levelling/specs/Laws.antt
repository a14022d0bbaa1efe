-- The laws, a file for each topic.
pub mod Additions
pub mod Answers
pub mod Levelling
pub mod Promises
pub mod Before
pub mod Shared
pub mod Summing
