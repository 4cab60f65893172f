pub mod EachObject
pub mod InStore
pub mod Typed
pub mod Guarded
pub mod Before
