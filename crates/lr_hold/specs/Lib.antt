pub mod Holds
pub mod Step
