mod HoldDeadlines
mod ReadWriteDeadlines
mod Deadlines
mod PermitWaits
mod CountWaits
mod Asked
mod Shared
mod OwnCalls
mod QueueHistory
mod Posts
mod Answers
mod FairAnswers
mod ReadWriteWaits
mod Waits
mod Answered
mod Entries
pub mod Worlds
pub mod Schedules
