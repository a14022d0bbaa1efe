pub mod Additions
pub mod Levelling
pub mod Before
pub mod Answers
pub mod Promises
pub mod Inner
pub mod Laws
