pub mod Queue
pub mod Step
pub mod Stands
pub mod Run
