-- What only inner contracts use, a file for each topic.
pub mod Distances
pub mod Kept
pub mod Rows
pub mod Spans
pub mod Steps
pub mod Tables
pub mod Walks
