-- The laws, a file for each topic.
pub mod Inside
pub mod Members
pub mod Parts
pub mod Writing
