pub mod Spelled
pub mod Tail
pub mod Explanation
