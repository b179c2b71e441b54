pub mod Holds
pub mod Step
pub mod Run
pub mod Stands
