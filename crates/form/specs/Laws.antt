-- The laws, a file for each topic.
pub mod Spelling
pub mod Tally
