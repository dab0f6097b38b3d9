pub mod OutputText
pub mod RowText
