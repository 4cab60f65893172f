pub mod Order
pub mod Cut
pub mod Items
pub mod Laws
pub mod Occurrence
pub mod Sames
pub mod Single
pub mod Aggregate
