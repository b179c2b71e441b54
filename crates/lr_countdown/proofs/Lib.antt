pub mod RunLemmas
pub mod StandsLaws
