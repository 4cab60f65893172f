pub mod Marks
pub mod Printed
pub mod Lists
pub mod Layout
pub mod Promise
