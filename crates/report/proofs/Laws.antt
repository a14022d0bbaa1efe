-- The laws, a file for each topic.
pub mod Cut
pub mod Evenness
pub mod Known
pub mod Lengths
pub mod Orders
pub mod Places
pub mod Printed
pub mod Printing
pub mod Promises
pub mod Settled
pub mod Texts
