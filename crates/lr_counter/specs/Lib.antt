pub mod Numbers
pub mod Run
pub mod Step
