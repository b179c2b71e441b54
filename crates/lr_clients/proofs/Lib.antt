pub mod Places
pub mod ThreadLists
pub mod Steps
pub mod RenewalReplies
