pub mod Deadlines
pub mod WorldFacts
pub mod Throughout
