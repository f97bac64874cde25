pub mod EntryFacts
pub mod Filled
pub mod PositionFacts
mod StandardFacts
pub mod Sums
pub mod Words
