-- How the reading of samples goes on.
use Rattle.std.specs.Prelude.{◌≡◌, List, [], ◌∷◌, ◌++◌, refl}
use Rattle.hept_ast.specs.declared.tree.Expr.{Expr}
use Rattle.hept_ast.specs.declared.tree.Form.TheVariants as form
use Rattle.ept_tokens.specs.declared.token.Token.{Token}
use Rattle.ept_grammar.specs.declared.parts.Sample.{Sample}
use Rattle.ept_grammar.specs.declared.parts.Counts.{Counts}
use Rattle.ept_grammar.specs.Grammar.{Samples, part, at, sampled}
use Rattle.ept_grammar.specs.Reading.{To}

-- none has been read yet
pub no_samples : (text : List Token) (c : Counts) → To Samples text c (part Samples ∷ []) (λ us. [] ++ us.0) text c
no_samples text c = record { spells = λ us ss vs d. d; stops = λ ss f s. s }

-- one sample more
pub sampled_more : (e : Expr) (ss : List Sample) (s : Sample) → sampled e (ss ++ s ∷ []) ≡ at s.place (form.When (sampled e ss) s.tag s.name)
sampled_more e [] s = refl
sampled_more e (r ∷ ss) s = sampled_more (at r.place (form.When e r.tag r.name)) ss s
