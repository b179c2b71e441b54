pub mod Name
pub mod Owner
pub mod Key
pub mod Channel
pub mod Post
