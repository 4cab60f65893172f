mod Passing
mod Texts
mod Numbered
mod TypePointers
mod LinkOrder
mod PointerInfos
pub mod BuiltSchemas
