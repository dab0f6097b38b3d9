-- The values of the outputs.
use Rattle.std.proofs.Common.{◌≡◌, ℕ, zero, suc, ◌<◌, true, List, [], ◌∷◌, length, All, subst, sym, get_or, arith}
use Rattle.hept_ast.specs.Texts.{Name, is_in, names}
use Rattle.hept_ast.specs.declared.tree.Decl.{Decl}

-- an output is a variable
pub name_among : (variables : List Name) (outputs : List Decl) (i : ℕ) (d : Decl) → All (λ x. is_in x variables ≡ true) (names outputs) → i < length outputs → d ≡ get_or outputs i d → is_in d.name variables ≡ true
name_among variables [] i d among lt e = absurd (omega (arith, lt))
name_among variables (x ∷ xs) zero d among lt e = subst (λ (y : Decl). is_in y.name variables ≡ true) (sym e) (among 0 d.name (omega arith))
name_among variables (x ∷ xs) (suc i) d among lt e = name_among variables xs i d (λ k y below. among (suc k) y (omega (arith, below))) (omega (arith, lt)) e
