pub use Rattle.ept_tokens.specs.Tokens
pub use Rattle.ept_tokens.specs.Cutting
pub use Rattle.ept_grammar.specs.Grammar
pub use Rattle.ept_grammar.specs.Text
pub mod Spelling
