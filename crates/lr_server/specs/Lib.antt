pub mod Server
pub mod Stands
pub mod Done
pub mod Serving
pub mod Looks
pub mod Looked
