pub mod Futures
pub mod Ends
pub mod CallsOf
pub mod SumCore
pub mod Counted
