pub mod LineLaws
pub mod Lines
pub mod Outside
pub mod Unread
