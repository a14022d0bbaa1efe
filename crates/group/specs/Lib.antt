pub mod Narrowing
pub mod Answers
pub mod Promises
pub mod Inner
pub mod Laws
