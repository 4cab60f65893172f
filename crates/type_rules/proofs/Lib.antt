pub mod Agreeing
pub mod Walking
pub mod Noting
