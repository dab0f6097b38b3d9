pub mod Forms
pub mod MoreNodes
