pub mod Runs
pub mod Parts
pub mod Walks
pub mod Filed
pub mod Grown
