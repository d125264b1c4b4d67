pub mod Written
pub mod Unread
