pub mod Lists
pub mod Rosters
pub mod Turning
pub mod Moves
pub mod Splitting
pub mod Joining
pub mod Ends
pub mod Looks
