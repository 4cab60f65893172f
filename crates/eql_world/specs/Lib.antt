pub mod StoreWorld
pub mod View
pub mod Worked
pub mod Laws
