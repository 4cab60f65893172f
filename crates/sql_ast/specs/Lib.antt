pub mod Nesting
pub mod Params
pub mod ParamLaws
pub mod ParamLists
pub mod Types
pub mod WellFormed
