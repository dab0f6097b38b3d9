pub mod Noted
pub mod Labels
