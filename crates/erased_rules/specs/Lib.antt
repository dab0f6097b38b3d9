pub mod ErasedLimits
pub mod ErasedDemands
pub mod ErasedClocks
pub mod ErasedTypes
pub mod ErasedStages
