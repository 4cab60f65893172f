pub mod Noted
pub mod Premises
pub mod Law
pub mod Numbers
pub mod Computed
pub mod Growth
