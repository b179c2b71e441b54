pub mod DueLemmas
pub mod Places
pub mod Rows
pub mod SameWatch
pub mod Watchdogs
