pub use Rattle.ept_tokens.specs.Kinds
pub use Rattle.ept_tokens.specs.Tokens
pub mod Grammar
pub mod Text
pub mod Reading
pub mod Laws
