pub mod Kept
pub mod WatchFacts
