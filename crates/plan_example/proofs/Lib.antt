pub mod FormsMore
pub mod Planned
pub mod Ready
