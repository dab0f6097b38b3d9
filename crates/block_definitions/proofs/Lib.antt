pub mod Again
pub mod CaseLists
pub mod NodeBlock
