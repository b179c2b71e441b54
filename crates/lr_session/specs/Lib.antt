pub mod Value
pub mod Stages
pub mod Told
pub mod Pushed
