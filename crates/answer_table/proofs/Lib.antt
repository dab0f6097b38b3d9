pub mod Shown
pub mod Same
pub mod ScopePaths
pub mod HomePaths
pub mod ClocksSeen
pub mod ClocksOf
pub mod OperandClocks
pub mod Keeping
