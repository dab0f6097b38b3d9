pub mod Alike
pub mod Judged
pub mod Operands
pub mod Arguments
pub mod Arms
pub mod Rows
