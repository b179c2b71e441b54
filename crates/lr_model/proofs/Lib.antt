pub mod Histories
pub mod ReadWriteFacts
pub mod ReadWriteLaws
pub mod Tables
pub mod SameChannel
pub mod Numbers
