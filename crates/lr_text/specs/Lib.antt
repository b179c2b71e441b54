pub mod ShortText
pub mod WordTable
pub mod Words
