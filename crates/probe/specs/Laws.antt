-- The laws, a file for each topic.
pub mod Alike
pub mod Figures
pub mod Pinned
pub mod PinnedPairs
pub mod Probes
pub mod Reaching
pub mod Sides
pub mod Terms
pub mod Verdicts
pub mod Lookups
