pub mod Same
pub mod SameLaws
pub mod Operators
pub mod Outcome
pub mod Names
pub mod Meaning
pub mod Forms
pub mod FaultLaws
