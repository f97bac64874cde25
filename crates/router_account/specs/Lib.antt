pub mod Account
pub mod Barriers
pub mod Ledger
pub mod Readings
pub mod Records
pub mod Shelves
pub mod Sights
pub mod Watches
