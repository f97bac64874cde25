mod Counting
pub mod TreeNames
