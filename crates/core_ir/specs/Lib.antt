pub mod Path
pub mod Parts
pub mod Occurrences
pub mod Card
pub mod Layout
pub mod ScopedPaths
pub mod ScopedParts
pub mod LayoutParts
