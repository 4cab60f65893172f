mod Truths
mod Stored
pub mod TypedLaws
pub mod TypedWorld
mod EachObject
mod Scalars
pub mod InStoreLaws
mod CutLaws
pub mod GuardLaws
pub mod BeforeLaws
