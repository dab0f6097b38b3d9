pub mod LeftTypes
