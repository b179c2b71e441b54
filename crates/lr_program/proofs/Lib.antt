pub mod DrillLaws
pub mod RaceLaws
pub mod RecentLaws
