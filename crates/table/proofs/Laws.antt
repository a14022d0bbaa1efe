-- The laws, a file for each topic.
pub mod Fronts
pub mod Lists
