pub mod Splitting
pub mod Names
pub mod Room
pub mod Inputs
pub mod Offering
