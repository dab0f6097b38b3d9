pub mod Undefined
pub mod Static
pub mod Kept
