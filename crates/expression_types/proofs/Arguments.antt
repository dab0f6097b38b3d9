-- The faults of a call's own, and arguments as they are taken one after the other.
use Rattle.std.proofs.Common.{◌≡◌, ℕ, Bool, List, [], ◌∷◌, ◌++◌, refl, sym, ◌∙◌, ap, append-nil}
use Rattle.std.specs.Prelude.{Option, None, Some, ◌||◌}
use Rattle.std.proofs.lemmas.List.Folds.{list_all-map}
use Rattle.hept_ast.specs.Faults.{Fault, Judging, Recursive, calls_lead, fault}
use Rattle.hept_ast.specs.Limits.{earlier_of, earliest}
use Rattle.hept_ast.specs.declared.tree.Node.{Node}
use Rattle.expression_types.specs.Fits.{stands}
use Rattle.expression_types.specs.Judgings.{call_faults}
use Rattle.earliest_fault.proofs.Noting.{noted_both}

pub ruleset all_of_mapped = (list_all-map)

call_split : (w : Judging) (p : ℕ) (g : Option Node) (own : List Fault) → call_faults w p g [] ++ own ≡ call_faults w p g own
call_split w p None own = refl
call_split w p (Some g) own = ap (λ l. l ++ own) (append-nil (fault p Recursive (calls_lead w.nodes g.name w.node.name)))

pub call-found : (w : Judging) (p : ℕ) (g : Option Node) (own : List Fault) (first o last : Option Fault) → o ≡ earlier_of first (earliest (call_faults w p g [])) → last ≡ earlier_of o (earliest own)
    → last ≡ earlier_of first (earliest (call_faults w p g own))
call-found w p g own first o last e h = noted_both (call_faults w p g []) own first o last e h ∙ ap (λ l. earlier_of first (earliest l)) (call_split w p g own)

pub stands-append : (fs gs : List Fault) → stands (fs ++ gs) ≡ (stands fs || stands gs)
stands-append [] gs = refl
stands-append (f ∷ fs) gs = refl

pub call-stands : (w : Judging) (p : ℕ) (g : Option Node) (own : List Fault) (a b : Bool) → a ≡ stands (call_faults w p g []) → b ≡ stands own → (a || b) ≡ stands (call_faults w p g own)
call-stands w p g own a b e d = ap (λ x. x || b) e ∙ (ap (λ x. stands (call_faults w p g []) || x) d ∙ (sym (stands-append (call_faults w p g []) own) ∙ ap stands (call_split w p g own)))
