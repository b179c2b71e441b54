pub mod CountLemmas
pub mod HoldsLaws
pub mod PostLaws
pub mod StepLemmas
