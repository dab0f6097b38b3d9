pub mod TurnedCore
