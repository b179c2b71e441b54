pub mod BulkLaws
pub mod CountLaws
