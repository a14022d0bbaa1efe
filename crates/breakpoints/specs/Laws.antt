-- The laws, a file for each topic.
pub mod Distances
pub mod Fills
pub mod Kept
pub mod Moved
pub mod PairFills
pub mod PairRows
pub mod Rows
pub mod Spans
pub mod Steps
pub mod Sums
pub mod Tables
pub mod Walks
