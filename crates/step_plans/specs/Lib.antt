pub mod Kept
pub mod Books
pub mod Operations
pub mod Things
pub mod Plans
pub mod Sending
pub mod Instants
pub mod Memories
