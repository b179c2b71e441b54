pub mod Leases
pub mod Stands
pub mod Step
pub mod Run
