pub mod Draws
pub mod Fitting
pub mod Laws
pub mod Lines
pub mod Made
pub mod Apart
