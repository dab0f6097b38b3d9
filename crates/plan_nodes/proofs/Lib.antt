mod Starting
pub mod Keeping
pub mod Adding
pub mod StoredForms
pub mod Equations
pub mod Lists
pub mod Bodies
mod Expanded
mod Planned
