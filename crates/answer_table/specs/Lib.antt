pub mod Parts
pub mod Things
pub mod Asking
pub mod Tables
pub mod HomePaths
