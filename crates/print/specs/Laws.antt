-- The laws, a file for each topic.
pub mod Lengths
pub mod Written
