-- The laws, a file for each topic.
pub mod Kinds
pub mod Parsed
pub mod Printed
pub mod Spots
pub mod Walking
pub mod Sentences
