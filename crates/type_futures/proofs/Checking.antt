-- What is answered, by the earliest fault that was found.
use Rattle.std.proofs.Common.{◌≡◌, List, [], ◌∷◌, ◌++◌, refl, sym, ◌∙◌, ap, subst, Some, None}
use Rattle.std.specs.Prelude.{Option, IfSome, MatchOption}
use Rattle.std.specs.Option.{option_map}
use Rattle.hept_ast.specs.Faults.{Fault}
use Rattle.hept_ast.specs.Limits.{IsFirst, earliest}
use Rattle.hept_ast.proofs.Earliest.{earliest-is_first}

pub none_found : (fs : List Fault) (q : Option Fault) → q ≡ earliest fs → q ≡ None → fs ≡ []
none_found fs q e n = subst (λ (o : Option Fault). MatchOption o (fs ≡ []) (IsFirst fs)) (sym e ∙ n) (earliest-is_first fs)

pub one_found : (fs : List Fault) (q : Option Fault) (f : Fault) → q ≡ earliest fs → q ≡ Some f → IsFirst fs f
one_found fs q f e s = subst (λ (o : Option Fault). MatchOption o (fs ≡ []) (IsFirst fs)) (sym e ∙ s) (earliest-is_first fs)

pub first_part : (fs gs : List Fault) → fs ++ gs ≡ [] → fs ≡ []
first_part [] gs e = refl
first_part (f ∷ fs) gs e = absurd (let n : ⊥ = cc in n)

pub said : (o : Option Fault) (fs : List Fault) (f : Fault) → IfSome o (λ g. g ≡ f) → IsFirst fs f → IfSome o (IsFirst fs)
said None fs f h i = tt
said (Some g) fs f h i = subst (IsFirst fs) (sym h) i

pub said_first : (o : Option Fault) (q : Option Fault) (f : Fault) → IfSome o (λ g. g ≡ f) → q ≡ Some f → IfSome (option_map (λ g. Some g) o) (λ r. r ≡ q)
said_first None q f h e = tt
said_first (Some g) q f h e = ap (λ x. Some x) h ∙ sym e
