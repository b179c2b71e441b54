pub mod Faults
pub mod Fronts
pub mod Kept
pub mod Lines
pub mod Turns
pub mod Writes
