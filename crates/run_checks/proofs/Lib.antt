pub mod Exits
pub mod FewNodes
mod Refusing
