-- The infix sign that comes next, of levels from the closest one on.
use Rattle.std.specs.Prelude.{List, [], ◌∷◌, Option, Some, None}
use Rattle.hept_ast.specs.declared.tree.BinaryOp.{BinaryOp}
use Rattle.ept_tokens.specs.declared.token.Kind.{Kind}
use Rattle.ept_tokens.specs.declared.token.Token.{Token}
use Rattle.ept_grammar.specs.declared.parts.Level.{Level}
use Rattle.ept_grammar.specs.declared.parts.Level.TheVariants as level
use Rattle.ept_grammar.specs.Grammar.{sign_at}

-- the levels from the closest one to this one
abbrev pub levels_to : Level → List Level
levels_to level.Product = level.Product ∷ []
levels_to level.Sum = level.Product ∷ level.Sum ∷ []
levels_to level.Comparison = level.Product ∷ level.Sum ∷ level.Comparison ∷ []
levels_to level.And = level.Product ∷ level.Sum ∷ level.Comparison ∷ level.And ∷ []
levels_to level.Or = level.Product ∷ level.Sum ∷ level.Comparison ∷ level.And ∷ level.Or ∷ []

-- the levels whose signs may come after a sign of the first of these
abbrev pub levels_after : List Level → List Level
levels_after (level.Comparison ∷ ls) = ls
levels_after ls = ls

-- a sign of a level with the levels after it, or else what looser levels give
abbrev pub or_looser : Option BinaryOp → Level → List Level → Option (Level × BinaryOp × List Level) → Option (Level × BinaryOp × List Level)
or_looser (Some o) l ls looser = Some (l, o, ls)
or_looser None l ls looser = looser

abbrev pub level_of : Kind → List Level → Option (Level × BinaryOp × List Level)
level_of k [] = None
level_of k (l ∷ ls) = or_looser (sign_at l k) l (levels_after (l ∷ ls)) (level_of k ls)

abbrev pub next_sign : List Level → List Token → Option (Level × BinaryOp × List Level)
next_sign ls [] = None
next_sign ls (t ∷ ts) = level_of t.kind ls
