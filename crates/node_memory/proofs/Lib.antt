pub mod Books
pub mod Standing
pub mod Rooms
