pub mod BitFacts
pub mod Counting
pub mod Members
mod PageFacts
pub mod Ranges
pub mod WordFacts
