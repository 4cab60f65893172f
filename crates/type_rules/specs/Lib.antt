pub mod Agreement
pub mod Tables
pub mod Refusal
pub mod Steps
pub mod Known
