pub mod Words
pub mod Trees
pub mod Grammar
pub mod Readers
pub mod Nests
pub mod Promise
