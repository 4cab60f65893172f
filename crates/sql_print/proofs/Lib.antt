pub mod Adding
pub mod Doubling
pub mod Forms
pub mod Heads
pub mod Layouts
