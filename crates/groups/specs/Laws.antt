-- The laws of the flat list, a file for each topic.
pub mod Storing
pub mod Reading
pub mod Walk
pub mod Marks
