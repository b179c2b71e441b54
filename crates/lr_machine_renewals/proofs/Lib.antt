pub mod OwnUntil
pub mod LockUntil
pub mod AccessUntil
pub mod KeyLaws
pub mod CallUntil
mod Watched
mod WatchRows
mod WatchChanges
mod TakeRows
mod RenewRows
mod CallSteps
mod Replies
mod Histories
pub mod Worlds
pub mod Schedules
