-- What only inner contracts use, a file for each topic.
pub mod Below
pub mod Distinct
pub mod Placed
pub mod Reading
pub mod Steps
pub mod Taking
pub mod Verdicts
