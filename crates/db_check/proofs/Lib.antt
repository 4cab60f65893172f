mod Notes
mod HeadTurns
mod ObjectTurns
mod Ruled
pub mod IdOrder
pub mod Search
mod HeadIds
pub mod Repeats
mod Clashes
mod Listed
pub mod Places
pub mod Placed
pub mod Sorted
pub mod NameOrder
pub mod NoFlaw
mod Pieces
mod PropertyValues
pub mod Contained
mod LinkTargets
mod Entries
mod PointerFits
mod HeadTypes
mod Found
mod ObjectFits
pub mod StoreLaws
