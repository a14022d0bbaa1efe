-- The laws, a file for each topic.
pub mod Course
pub mod Pieces
