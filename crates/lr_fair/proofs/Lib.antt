pub mod QueueLaws
pub mod StaleLaws
pub mod ChangeLemmas
pub mod StepLemmas
pub mod TurnLemmas
pub mod RunLemmas
pub mod StandsLaws
