pub mod Divisions
pub mod Names
pub mod Numbers
pub mod Items
pub mod JsonTexts
pub mod Orders
pub mod Standing
pub mod Trees
