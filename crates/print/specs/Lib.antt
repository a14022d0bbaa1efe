pub mod Items
pub mod Inner
pub mod Laws
