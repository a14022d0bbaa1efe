-- The laws, a file for each topic.
pub mod Findings
pub mod First
pub mod Units
