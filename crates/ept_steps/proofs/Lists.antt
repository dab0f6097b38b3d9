-- Lists that grow at their end.
use Rattle.std.specs.Prelude.{◌≡◌, List, [], ◌∷◌, ◌++◌}
use Rattle.std.proofs.Common.{ap, sym, ◌∙◌, append_assoc}

pub one_more : {A : Type 0} (all : List A) (x : A) (new rest : List A) → new ≡ all ++ x ∷ [] → all ++ (x ∷ rest) ≡ new ++ rest
one_more all x new rest e = sym (append_assoc all (x ∷ []) rest) ∙ ap (λ xs. xs ++ rest) (sym e)

pub first_one : {A : Type 0} (none : List A) (x : A) (new rest : List A) → none ≡ [] → new ≡ none ++ x ∷ [] → x ∷ rest ≡ new ++ rest
first_one none x new rest n e = ap (λ xs. xs ++ rest) (sym (e ∙ ap (λ xs. xs ++ x ∷ []) n))

pub some_more : {A : Type 0} (all xs new rest : List A) → new ≡ all ++ xs → all ++ (xs ++ rest) ≡ new ++ rest
some_more all xs new rest e = sym (append_assoc all xs rest) ∙ ap (λ ys. ys ++ rest) (sym e)
