pub mod Counts
pub mod Inside
pub mod Items
pub mod Places
