pub mod Openers
pub mod Connections
pub mod HadTurns
pub mod Stepping
