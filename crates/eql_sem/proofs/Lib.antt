pub mod Products
pub mod Equations
pub mod LongestPrefix
pub mod Cutting
pub mod ValueForms
pub mod Elements
