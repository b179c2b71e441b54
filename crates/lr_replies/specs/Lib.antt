pub mod Roles
pub mod Shapes
pub mod Frames
pub mod Reading
pub mod Laws
