pub mod Namings
pub mod Normalised
