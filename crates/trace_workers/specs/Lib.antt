pub mod Records
pub mod Jobs
pub mod Dealing
pub mod Columns
pub mod Laws
