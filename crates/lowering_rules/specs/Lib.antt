pub mod PlainPrograms
pub mod Lowering
pub mod CallPaths
pub mod Ties
pub mod TiedScopes
pub mod LoweringLaws
