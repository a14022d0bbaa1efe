pub mod Foreign
pub mod Promises
pub mod Laws
