pub mod Interfaces
pub mod Shapes
