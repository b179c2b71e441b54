pub mod Recent
pub mod Remembering
pub mod Words
pub mod Commands
