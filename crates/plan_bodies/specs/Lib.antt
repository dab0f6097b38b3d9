pub mod Buildable
pub mod Expansions
pub mod Arguments
pub mod Valued
