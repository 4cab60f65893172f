pub mod ColumnLaws
pub mod ViewLaws
pub mod Lists
pub mod Cuts
pub mod ViewFits
pub mod SameWorlds
mod Beside
