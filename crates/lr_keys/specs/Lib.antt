pub mod Addition
pub mod Content
pub mod FieldMap
pub mod FieldOrder
pub mod KeySpace
pub mod PairOf
pub mod Slots
pub mod Table
