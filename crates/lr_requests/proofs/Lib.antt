pub mod CommandLaws
pub mod PlaceLaws
pub mod ListLaws
pub mod FrameLaws
pub mod AskedLaws
pub mod FaultLaws
