pub mod Standing
pub mod Memories
