pub mod ThreadRequests
pub mod Joined
pub mod WatchedRequests
