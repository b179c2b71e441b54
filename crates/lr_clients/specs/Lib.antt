pub mod Client
pub mod Rows
pub mod Items
pub mod SleeperValue
pub mod Stands
