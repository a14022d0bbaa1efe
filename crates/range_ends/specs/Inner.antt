-- What only inner contracts use, a file for each topic.
pub mod Edges
pub mod Known
pub mod Members
pub mod Tabled
