pub mod Forms
pub mod Alike
pub mod Capping
pub mod Adding
pub mod Examples
