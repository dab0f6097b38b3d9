pub use Rattle.ept_grammar.specs.Grammar
pub use Rattle.ept_grammar.specs.Reading
pub use Rattle.ept_grammar.specs.Text
