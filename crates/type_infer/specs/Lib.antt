pub mod Kinds
pub mod Known
pub mod Forms
pub mod Rest
pub mod Typing
pub mod Verdict
pub mod HasType
pub mod Laws
