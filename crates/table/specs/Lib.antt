pub mod Tables
pub mod Inner
