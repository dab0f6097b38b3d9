pub mod Running
pub mod Actions
pub mod Instant
