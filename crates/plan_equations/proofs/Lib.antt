pub mod FormsMore
pub mod RightOperands
pub mod Remembering
pub mod KeptCells
pub mod Beginnings
pub mod Defining
