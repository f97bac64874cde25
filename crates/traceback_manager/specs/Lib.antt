pub mod Rounds
pub mod Beside
