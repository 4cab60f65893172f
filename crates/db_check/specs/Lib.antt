pub mod Exclusive
pub mod Holders
pub mod KeyLaws
pub mod Check
pub mod Extent
pub mod Placing
pub mod Store
pub mod Laws
