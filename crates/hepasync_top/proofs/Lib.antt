mod Beginning
pub mod Completeness
pub mod Ends
pub mod FileTexts
pub mod LineSteps
pub mod Lines
pub mod NextOutputs
pub mod Statuses
