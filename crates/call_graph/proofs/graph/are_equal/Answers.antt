use Rattle.std.proofs.Common.{◌≡◌, Bool, true, false, refl}
use Rattle.std.specs.Bool.{Decides}
use Rattle.std.proofs.lemmas.Slice.Eq.{slice_eq-Decides}
use mathlib.Core.Bool.{beq}
use Rattle.call_graph.proofs.graph.are_equal.Goals as goal

bools : (a b : Bool) → Decides (beq a b) (a ≡ b)
bools true true = (λ _. refl, λ _. refl)
bools true false = (λ e. cc, λ e. cc)
bools false true = (λ e. cc, λ e. cc)
bools false false = (λ _. refl, λ _. refl)

pub returns : goal.returns
returns c = slice_eq-Decides bools _ _ _ c.eq.ensures
