pub mod Cores
pub mod WellFormed
pub mod FutureMemories
