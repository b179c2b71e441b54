pub mod Run
pub mod Stands
