pub mod Entries
pub mod Positions
pub mod Rows
pub mod SplitMix
