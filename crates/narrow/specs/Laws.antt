-- The laws, a file for each topic.
pub mod Tabled
pub mod Turns
