pub mod LoweredReads
pub mod LoweredPlaces
