pub mod Calls
pub mod Promises
pub mod Handing
pub mod Inner
