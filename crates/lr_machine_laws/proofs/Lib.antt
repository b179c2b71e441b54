pub mod Connections
pub mod Closes
pub mod Cuts
pub mod Worlds
pub mod Growth
pub mod Lengths
pub mod Schedules
