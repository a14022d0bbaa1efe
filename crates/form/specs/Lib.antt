pub mod Form
pub mod Inner
pub mod Laws
pub mod Named
