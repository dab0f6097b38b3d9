pub mod ServedForms
pub mod ServedNodes
pub mod LoweredFlat
pub mod NamedFlat
pub mod OrderedFlat
