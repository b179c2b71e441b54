pub mod FrameLaws
pub mod RefusalLaws
pub mod Spellings
pub mod Tables
