-- The exit of a `?`.
use Rattle.std.specs.Prelude.{◌≡◌, Result, Ok, Err, IfOk}
use Rattle.std.specs.Result.{IsErrAnd}
use Rattle.std.proofs.lemmas.Result.{err_from_is_err_and}
use Rattle.std.proofs.Common.{subst, sym, ap, ◌∙◌}

-- what is so of the fault that is passed on
pub at_err : {X F : Type 0} (Q : Result X F → Type 0) (r : Result X F) (e : F) → IsErrAnd r (λ y. y ≡ e) → Q (Err e) → Q r
at_err Q r e i q = let p = err_from_is_err_and r i in subst Q (sym (p.1 ∙ ap (λ x. Err x) p.2)) q

-- what is so of an answer that is passed on
pub if_ok : {A F : Type 0} (P Q : A → Type 0) → ((x : A) → P x → Q x) → (r : Result A F) → IfOk r P → IfOk r Q
if_ok P Q f (Ok x) h = f x h
if_ok P Q f (Err e) h = h
