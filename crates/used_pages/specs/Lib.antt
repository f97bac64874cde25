pub mod Gathered
pub mod UsedPages
