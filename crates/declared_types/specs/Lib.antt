pub mod Typing
pub mod Types
pub mod Tags
pub mod Lefts
