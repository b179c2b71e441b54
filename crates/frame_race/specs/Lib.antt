pub mod Counted
pub mod Repeated
