-- The laws, a file for each topic.
pub mod Edges
pub mod Ends
pub mod Known
pub mod Members
pub mod Reaching
pub mod Searches
pub mod Taken
