pub mod Computable
pub mod Building
pub mod Grounded
pub mod Clocked
pub mod Plain
