pub mod Lists
pub mod Forms
pub mod Judged
pub mod Expressions
pub mod FittedTypes
pub mod Values
pub mod Law
