pub mod Cells
pub mod Equations
pub mod Faults
