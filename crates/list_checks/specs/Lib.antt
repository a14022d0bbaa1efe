pub mod Checks
pub mod Findings
pub mod First
pub mod Inner
