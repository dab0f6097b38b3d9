-- By what erased expressions are judged, and what it takes that a judged expression has a type and no fault.
use Rattle.std.proofs.Common.{◌≡◌, ℕ, Bool, false, List, [], ◌∷◌, ◌++◌, map, refl, sym, ap, ◌∙◌}
use Rattle.std.specs.Prelude.{Option, Some, None, is_some, not}
use Rattle.std.specs.Option.{option_map, option_map_or, option_and_then}
use Rattle.hept_ast.specs.Texts.{Name}
use Rattle.hept_ast.specs.Parts.{declaration}
use Rattle.hept_ast.specs.Types.{Fit, Fits, Misfit, Untyped}
use Rattle.hept_ast.specs.Faults.{Fault, UnknownName, FutureKept, Mismatch, fault, Judged, judged_by, judged_of, judged, Judging, is_kept, type_of_variable, unknown_variable, read_faults, has_last}
use Rattle.hept_ast.specs.Erasure.{erased_type, erased_decl, erased_init, erased_node}
use Rattle.hept_ast.specs.declared.tree.Decl.{Decl}
use Rattle.hept_ast.specs.declared.tree.Init.{Init}
use Rattle.hept_ast.specs.declared.tree.Ty.{Ty}
use Rattle.hept_ast.specs.declared.tree.Ty.TheVariants as ty
use Rattle.erased_rules.proofs.Lists.{nil_left, nil_right, nil_both}
use Rattle.erased_rules.proofs.ErasedNodes.{declaration_same}
use Rattle.erased_rules.proofs.Fits.{Kept_fit}

abbrev pub erased_judging : Judging → Judging
erased_judging w = record { types = w.types; nodes = map erased_node w.nodes; node = erased_node w.node; seen = map erased_decl w.seen; strong = w.strong }

pub filled : {A : Type 0} (x : A) (xs : List A) → x ∷ xs ≡ [] → ⊥
filled x xs h = cc

-- ---- what is judged without faults

abbrev pub clean : {A : Type 0} → A → Judged A
clean x = record { types = Some x; faults = [] }

by_own : (p : ℕ) (own : List Fault) (f : Fit) → (judged_by p own f).faults ≡ [] → own ≡ []
by_own p own (Fits ts) h = h
by_own p own Misfit h = absurd (filled (record { place = p; kind = Mismatch }) own h)
by_own p own Untyped h = h

of_own : {A : Type 0} (p : ℕ) (fs : List Fault) (o : Option A) (fit : A → Fit) → (judged_of p fs o fit).faults ≡ [] → fs ≡ []
of_own p fs None fit h = h
of_own p fs (Some x) fit h = by_own p fs (fit x) h

-- neither it nor its operands are at fault
pub own_nil : {A : Type 0} (p : ℕ) (own : List Fault) (j : Judged A) (fit : A → Fit) → (judged p own j fit).faults ≡ [] → own ≡ []
own_nil p own j fit h = nil_left own j.faults (of_own p (own ++ j.faults) j.types fit h)

pub operands_nil : {A : Type 0} (p : ℕ) (own : List Fault) (j : Judged A) (fit : A → Fit) → (judged p own j fit).faults ≡ [] → j.faults ≡ []
operands_nil p own j fit h = nil_right own j.faults (of_own p (own ++ j.faults) j.types fit h)

by_operands : {A : Type 0} (p : ℕ) (own : List Fault) (j : Judged A) (fit : A → Fit) (x : A) → own ≡ [] → j ≡ clean x → judged p own j fit ≡ judged_by p [] (fit x)
by_operands p own j fit x o i = ap (λ (fs : List Fault). judged p fs j fit) o ∙ ap (λ (k : Judged _). judged p [] k fit) i

pub judged_clean : {A : Type 0} (p : ℕ) (own : List Fault) (j : Judged A) (fit : A → Fit) (x : A) (ts : List Ty) → own ≡ [] → j ≡ clean x → fit x ≡ Fits ts → judged p own j fit ≡ clean ts
judged_clean p own j fit x ts o i f = by_operands p own j fit x o i ∙ ap (judged_by p []) f

-- where its operands have types, these fit
pub not_misfit : {A : Type 0} (p : ℕ) (own : List Fault) (j : Judged A) (fit : A → Fit) (x : A) → j ≡ clean x → (judged p own j fit).faults ≡ [] → fit x ≡ Misfit → ⊥
not_misfit p own j fit x i h m =
    let e : (judged p own j fit) ≡ judged_by p [] Misfit = by_operands p own j fit x (own_nil p own j fit h) i ∙ ap (judged_by p []) m in
    filled (record { place = p; kind = Mismatch }) [] (ap (λ (k : Judged (List Ty)). k.faults) (sym e) ∙ h)

-- an expression with types, and what the erased one comes to
abbrev pub Good : Judged (List Ty) → Judged (List Ty) → Type 0
Good j j' = (ts : List Ty) × (j ≡ clean ts) × (j' ≡ clean (map erased_type ts))

pub judged_kept : {A B : Type 0} (p : ℕ) (own own' : List Fault) (j : Judged A) (j' : Judged B) (fit : A → Fit) (fit' : B → Fit) (x : A) (y : B) →
    (judged p own j fit).faults ≡ [] → own' ≡ [] → j ≡ clean x → j' ≡ clean y → Kept_fit (fit x) (fit' y) → Good (judged p own j fit) (judged p own' j' fit')
judged_kept p own own' j j' fit fit' x y h o i i' k =
    let r = k (not_misfit p own j fit x i h) in
    (r.0, judged_clean p own j fit x r.0 (own_nil p own j fit h) i r.1, judged_clean p own' j' fit' y (map erased_type r.0) o i' r.2)

-- ---- variables

some_same : (d : Option Decl) → is_some (option_map erased_decl d) ≡ is_some d
some_same None = refl
some_same (Some d) = refl

module _ (w : Judging) where
  pub seen_type : (x : Name) → type_of_variable (erased_judging w) x ≡ option_map erased_type (type_of_variable w x)
  seen_type x = ap (λ (d : Option Decl). option_map (λ (d : Decl). d.ty) d) (declaration_same w.seen x) ∙ go (declaration w.seen x)
    where
      go : (d : Option Decl) → option_map (λ (d : Decl). d.ty) (option_map erased_decl d) ≡ option_map erased_type (option_map (λ (d : Decl). d.ty) d)
      go None = refl
      go (Some d) = refl

  pub unknown_same : (p : ℕ) (x : Name) → unknown_variable (erased_judging w) p x ≡ unknown_variable w p x
  unknown_same p x = ap (λ (b : Bool). fault p UnknownName (not b)) (ap (λ (d : Option Decl). is_some d) (declaration_same w.seen x) ∙ some_same (declaration w.seen x))

  pub none_kept : (x : Name) (t : Ty) → is_kept (erased_judging w) x (erased_type t) ≡ false
  none_kept x (ty.Plain t) = refl
  none_kept x (ty.Future t) = refl

  no_future : (x : Name) (t : Option Ty) → option_map_or (is_kept (erased_judging w) x) (option_map erased_type t) false ≡ false
  no_future x None = refl
  no_future x (Some t) = none_kept x t

  pub read_kept : (p : ℕ) (x : Name) → read_faults w p x ≡ [] → read_faults (erased_judging w) p x ≡ []
  read_kept p x h =
      let v = erased_judging w in
      nil_both (unknown_variable v p x) (fault p FutureKept (option_map_or (is_kept v x) (type_of_variable v x) false))
      (unknown_same p x ∙ nil_left (unknown_variable w p x) (fault p FutureKept (option_map_or (is_kept w x) (type_of_variable w x) false)) h)
      (ap (fault p FutureKept) (ap (λ (t : Option Ty). option_map_or (is_kept v x) t false) (seen_type x) ∙ no_future x (type_of_variable w x)))

  pub has_type : (p : ℕ) (x : Name) → unknown_variable w p x ≡ [] → (t : Ty) × (type_of_variable w x ≡ Some t)
  has_type p x h = go (declaration w.seen x) h
    where
      go : (d : Option Decl) → fault p UnknownName (not (is_some d)) ≡ [] → (t : Ty) × (option_map (λ (d : Decl). d.ty) d ≡ Some t)
      go None h = absurd (filled (record { place = p; kind = UnknownName }) [] h)
      go (Some d) h = (d.ty, refl)

  pub last_same : (x : Name) → has_last (erased_judging w) x ≡ has_last w x
  last_same x = ap (λ (d : Option Decl). is_some (option_and_then (λ (d : Decl). d.init) d)) (declaration_same w.seen x) ∙ go (declaration w.seen x)
    where
      init_some : (i : Option Init) → is_some (option_map erased_init i) ≡ is_some i
      init_some None = refl
      init_some (Some i) = refl

      go : (d : Option Decl) → is_some (option_and_then (λ (d : Decl). d.init) (option_map erased_decl d)) ≡ is_some (option_and_then (λ (d : Decl). d.init) d)
      go None = refl
      go (Some d) = init_some d.init
