pub mod Captures
pub mod Certificates
pub mod Inputs
pub mod Later
pub mod Refusals
pub mod Replies
pub mod Run
pub mod Words
