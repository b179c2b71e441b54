pub mod Race
pub mod Passes
pub mod Summary
pub mod Drill
pub mod Drilling
pub mod Ends
