pub mod Discards
pub mod Backs
pub mod Lengths
