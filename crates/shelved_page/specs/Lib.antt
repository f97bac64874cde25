pub mod Shelving
pub mod Reading
