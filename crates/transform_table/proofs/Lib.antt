pub mod Gathered
pub mod Counted
pub mod Moves
pub mod Tabled
pub mod Olds
