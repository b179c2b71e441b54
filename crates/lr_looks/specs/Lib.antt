pub mod Bulks
pub mod Seen
pub mod Looks
pub mod Ping
