pub use Rattle.answer_table.specs.Things
pub mod Rules
pub mod Found
pub mod CallRules
pub mod Inputs
pub mod Equations
pub mod ErasedRows
pub mod Pending
