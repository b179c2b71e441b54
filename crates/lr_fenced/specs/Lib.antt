pub mod Run
pub mod Stands
pub mod Step
