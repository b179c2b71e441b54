pub mod Results
pub mod Events
pub mod Progress
pub mod Lines
pub mod Ends
pub mod Long
