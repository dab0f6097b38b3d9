-- Clocks set one after another.
use Rattle.std.proofs.Common.{◌≡◌, ℕ, ◌+◌, ◌<◌, List, [], ◌∷◌, ◌++◌, length, map, take, refl, sym, ◌∙◌, ap, subst, Bool, true, false, if◌then◌else◌, ◌==◌, ◌&&◌, ◌||◌, Some, None, slice_index_or}
use Rattle.std.specs.Prelude.{Option, slice_get, unwrap_or}
use Rattle.std.proofs.lemmas.Slice.Eq.{bytes_eq-Decides}
use Rattle.std.proofs.lemmas.List.{map-append, take-map, take_more}
use Rattle.std.proofs.lemmas.List.Folds.{list_any-append}
use Rattle.std.proofs.lemmas.Option.{slice_get-map, unwrap_or-slice_get}
use Rattle.std.specs.Option.{option_map}
use Rattle.hept_ast.specs.declared.tree.ClockStep.{ClockStep}
use Rattle.hept_ast.specs.declared.tree.Tag.TheVariants as tag
use Rattle.clock_calculus.specs.Numbering.{step_at}
use Rattle.hept_ast.specs.ClockMaps.{ClockMap, IsSetIn, path_in}
use Rattle.hept_ast.specs.Scopes.{Clock}
use Rattle.hept_ast.specs.Texts.{Name, is_in, same}
use Rattle.hept_ast.specs.declared.tree.ClockPath.{ClockPath}
use Rattle.clock_calculus.specs.Filled.{IsFilled}
use Rattle.clock_calculus.specs.Unify.{Bindings, least, steps_of}

chosen : (t : Bool) (p o : Option ClockPath) → o ≡ (if t && false then p else o)
chosen true p o = refl
chosen false p o = refl

pub filled_none : (m : ClockMap) (k : ℕ) (c : Name → Clock) → IsFilled m m k [] c
filled_none m k c j y = chosen (j == k) (Some (record { steps = c y })) (path_in m j y)

choose : (t u v : Bool) (p q : Option ClockPath) (o : Option ClockPath) → (v ≡ true → q ≡ p) → (if t && v then q else if t && u then p else o) ≡ (if t && (u || (v || false)) then p else o)
choose true true true p q o h = h refl
choose true true false p q o h = refl
choose true false true p q o h = h refl
choose true false false p q o h = refl
choose false u v p q o h = refl

pub filled_more : (old m new : ClockMap) (k : ℕ) (xs : List Name) (c : Name → Clock) (x : Name) → IsFilled old m k xs c → IsSetIn m new k x (record { steps = c x }) → IsFilled old new k (xs ++ x ∷ []) c
filled_more old m new k xs c x f s j y =
    let t = j == k in
    s j y ∙ ap (λ o. if t && same y x then Some (record { steps = c x }) else o) (f j y)
    ∙ choose t (is_in y xs) (same y x) (Some (record { steps = c y })) (Some (record { steps = c x })) (path_in old j y) (λ e. ap (λ z. Some (record { steps = c z })) (sym ((bytes_eq-Decides y x).0 e)))
    ∙ ap (λ u. if t && u then Some (record { steps = c y }) else path_in old j y) (sym (list_any-append (same y) xs (x ∷ [])))

-- what an unknown is bound to, read
pub bound_read : (b : Bindings) (u : ℕ) → steps_of (unwrap_or (slice_get b u) None) ≡ least b u
bound_read b u = ap steps_of (unwrap_or-slice_get b u None)

pub ruleset bindings = (bound_read)

pub filled_name : {X : Type 0} (f : X → Name) (xs : List X) (i : ℕ) (x : X) → i < length xs → x ≡ slice_index_or xs i x → (old m new : ClockMap) (k : ℕ) (c : Name → Clock)
    → IsFilled old m k (take i (map f xs)) c → IsSetIn m new k (f x) (record { steps = c (f x) }) → IsFilled old new k (take (i + 1) (map f xs)) c
filled_name f xs i x below e old m new k c h s =
    let t : take (i + 1) (map f xs) ≡ take i (map f xs) ++ f x ∷ [] =
    take-map f (i + 1) xs ∙ ap (map f) (take_more xs i x below) ∙ map-append f (take i xs) (slice_index_or xs i x ∷ []) ∙ ap (λ ys. ys ++ f (slice_index_or xs i x) ∷ []) (sym (take-map f i xs)) ∙ ap (λ y. take i (map f xs) ++ f y ∷ []) (sym e) in
    subst (λ ys. IsFilled old new k ys c) (sym t) (filled_more old m new k (take i (map f xs)) c (f x) h s)

-- a number past the steps
pub step_past : {X : Type 0} (f : X → ClockStep) (xs : List X) (n : ℕ) (x : Name) → None ≡ slice_get xs n → x ≡ [] → record { tag = tag.Truth true; name = x } ≡ step_at (map f xs) n
step_past f xs n x e h =
    let d : ClockStep = record { tag = tag.Truth true; name = [] } in
    ap (λ y. record { tag = tag.Truth true; name = y }) h ∙ ap (λ o. unwrap_or (option_map f o) d) e ∙ ap (λ o. unwrap_or o d) (sym (slice_get-map f xs n)) ∙ unwrap_or-slice_get (map f xs) n d

pub unbound_read : (b : Bindings) (u : ℕ) → None ≡ slice_get b u → [] ≡ least b u
unbound_read b u e = ap (λ o. steps_of (unwrap_or o None)) e ∙ bound_read b u
