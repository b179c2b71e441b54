pub mod Drilling
pub mod Racing
pub mod Drawn
pub mod Sleepers
