pub mod NameLaws
pub mod OwnerLaws
pub mod KindLaws
pub mod KeyLaws
pub mod ChannelLaws
