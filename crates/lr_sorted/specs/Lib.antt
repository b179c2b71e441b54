pub mod Inside
pub mod Members
pub mod Places
pub mod Select
pub mod Set
pub mod Sorted
pub mod Tournament
