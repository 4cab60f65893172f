pub mod Elements
pub mod Properties
pub mod Links
pub mod Names
pub mod Made
