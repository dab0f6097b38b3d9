pub mod Noting
pub mod Seconds
pub mod NameSets
