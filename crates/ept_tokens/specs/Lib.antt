pub mod Kinds
pub mod Tokens
pub mod Cutting
