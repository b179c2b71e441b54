pub mod HistoryValue
pub mod Segments
pub mod Limit
