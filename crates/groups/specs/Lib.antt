pub mod Memberships
pub mod Inner
pub mod Laws
