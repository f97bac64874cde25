mod Examples
pub mod Places
pub mod TimeFacts
pub mod Windows
