pub mod RowShapes
pub mod Interfaces
mod Calls
mod Planning
mod RowByRow
pub mod AtInstant
