pub mod Closes
pub mod Served
pub mod Passes
pub mod Calls
