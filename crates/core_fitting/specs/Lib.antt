pub mod Sound
pub mod Holding
pub mod Laws
pub mod StaticLaws
