pub mod Reread
pub mod Words
