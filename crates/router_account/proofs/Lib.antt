mod Examples
pub mod LaterReads
pub mod PageSets
pub mod Shuffled
