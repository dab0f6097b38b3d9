pub mod LineEnds
pub mod Machine
pub mod Objects
pub mod Outputs
pub mod Run
pub mod Turns
