pub mod Scene
pub mod Fits
pub mod Judgings
