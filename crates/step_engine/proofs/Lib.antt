pub mod Passing
pub mod ActionsDone
pub mod FuturesKept
pub mod WholeInstant
pub mod CallsOfBook
