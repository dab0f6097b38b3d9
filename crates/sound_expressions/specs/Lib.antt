pub mod Sound
pub mod Demands
pub mod Judgings
pub mod Values
