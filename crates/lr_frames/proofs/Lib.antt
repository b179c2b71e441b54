pub mod BulkLaws
pub mod GivenLaws
pub mod OpLaws
pub mod FaultLaws
pub mod Outcomes
