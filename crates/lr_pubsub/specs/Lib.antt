pub mod Connection
pub mod ConnectionSet
pub mod ConnectionSlot
pub mod Subscribers
pub mod BoardValue
pub mod BoardParts
pub mod Delivery
