pub mod NumbersLaws
pub mod RunLemmas
