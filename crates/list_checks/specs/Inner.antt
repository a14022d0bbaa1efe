-- What only inner contracts use, a file for each topic.
pub mod Units
