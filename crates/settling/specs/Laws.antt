-- The laws, a file for each topic.
pub mod Turning
