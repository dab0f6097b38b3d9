pub mod NotBack
pub mod CallsEnd
pub mod Existing
pub mod Weighed
pub mod Agreeing
pub mod Tables
pub mod Right
