pub mod Digits
pub mod Fitting
pub mod LineWords
pub mod RowLine
pub mod Rows
pub mod SinkBytes
