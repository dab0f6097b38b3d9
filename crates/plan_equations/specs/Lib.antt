pub mod Grounds
pub mod Rights
pub mod Equations
