pub mod Called
pub mod Cuts
pub mod Steps
pub mod World
