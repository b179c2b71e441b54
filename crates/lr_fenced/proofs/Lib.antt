pub mod LockLaws
pub mod PostLemmas
pub mod RunLemmas
pub mod StandsLaws
pub mod TakeLemmas
pub mod TokenLemmas
