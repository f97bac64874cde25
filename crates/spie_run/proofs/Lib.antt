pub mod Delivery
pub mod Unread
