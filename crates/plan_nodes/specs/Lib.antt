pub mod Built
pub mod Stores
pub mod Texts
