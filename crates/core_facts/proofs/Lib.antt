pub mod Undefined
pub mod Reordered
mod SumCore
