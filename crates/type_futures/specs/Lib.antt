pub mod Labels
pub mod Chosen
pub mod Walk
pub mod Demands
pub mod NodeFaults
pub mod Checked
