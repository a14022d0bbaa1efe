pub mod Words
pub mod Kinds
pub mod Parsed
pub mod Numbers
pub mod Ailments
pub mod Sentences
pub mod Inner
pub mod Laws
