pub mod EntryLaws
pub mod LeaseLaws
pub mod ChangeLemmas
pub mod StepLemmas
pub mod RunLemmas
pub mod StandsLaws
pub mod CallLemmas
pub mod WaitLemmas
