pub mod ReadBack
pub mod Promise
