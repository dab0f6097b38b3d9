pub mod Levels
pub mod Sampling
