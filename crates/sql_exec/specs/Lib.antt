pub mod Engine
pub mod Answer
