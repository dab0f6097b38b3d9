pub mod Cuts
pub mod Sizes
pub mod NewNames
pub mod OneType
pub mod Scenes
pub mod Settling
