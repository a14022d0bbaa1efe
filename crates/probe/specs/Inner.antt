-- What only inner contracts use, a file for each topic.
pub mod Figures
pub mod Pairs
pub mod Pinned
pub mod Probes
pub mod Sides
pub mod Terms
pub mod Verdicts
pub mod Lookups
