pub mod Chosen
pub mod OwnSeen
pub mod Swaps
pub mod Walks
pub mod Demands
pub mod NodeParts
pub mod Checking
