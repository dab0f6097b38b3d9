pub mod ReadsOf
pub mod Cycles
pub mod Taken
pub mod Permuted
pub mod Reordered
pub mod WellKept
