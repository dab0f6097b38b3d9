-- Names of declarations and of left sides, and where they stand.
use Rattle.std.proofs.Common.{◌≡◌, ◌⊎◌, inl, inr, ℕ, zero, suc, ◌+◌, Bool, true, false, if◌then◌else◌, List, [], ◌∷◌, ◌++◌, refl, sym, ap, subst, ◌∙◌, arith, Some, None, append_assoc}
use Rattle.std.specs.Prelude.{All, slice_get}
use Rattle.std.specs.List.{find, flat_map}
use Rattle.std.proofs.lemmas.Bool.{false≢true}
use Rattle.std.proofs.lemmas.List.Elements.{All-nil, All-cons, All-head, All-tail}
use Rattle.hept_ast.specs.Texts.{Name, is_in, names, place_in, same}
use Rattle.hept_ast.specs.Scopes.{equation_of}
use Rattle.hept_ast.specs.Paths.{AllDiffer, IsAmong, at_head, in_tail}
use Rattle.hept_ast.specs.declared.tree.CoreEquation.{CoreEquation}
use Rattle.hept_ast.specs.declared.tree.CoreNode.{CoreNode}
use Rattle.hept_ast.specs.declared.tree.Decl.{Decl}
use Rattle.hept_ast.specs.declared.tree.Core.{Core}
use Rattle.core_rules.specs.Cores.{core_decls, lefts_of}
use Rattle.core_rules.specs.WellFormed.{IsWellFormedNode}
use Rattle.core_rules.proofs.CallsOf.{not_both}
use Rattle.core_rules.proofs.Ends.{same_is, same_self}
use Rattle.core_fitting.proofs.Lists.{same_some}
use Rattle.core_fitting.proofs.NamesRead.{in_either, in_first, in_left, in_more, in_right}
use Rattle.step_plans.specs.Plans.{IsInputAt}

-- ---- lists

no_some : {A P : Type 0} (x : A) → None ≡ Some x → P
no_some x h = cc

pub at_place : {A : Type 0} (P : A → Type 0) (xs : List A) (k : ℕ) (x : A) → All P xs → slice_get xs k ≡ Some x → P x
at_place P [] k x all h = no_some x h
at_place P (y ∷ ys) zero x all h = subst P (same_some y x h) (All-head P y ys all)
at_place P (y ∷ ys) (suc k) x all h = at_place P ys k x (All-tail P y ys all) h

pub all_names : (P : Name → Type 0) (xs : List Name) → ((x : Name) → is_in x xs ≡ true → P x) → All P xs
all_names P [] h = All-nil P
all_names P (x ∷ xs) h = All-cons P x xs (h x (in_first x xs)) (all_names P xs (λ y i. h y (in_more y x xs i)))

at_among : (x : Name) (xs : List Name) (k : ℕ) → slice_get xs k ≡ Some x → IsAmong x xs
at_among x [] k h = no_some x h
at_among x (y ∷ ys) zero h = subst (λ (z : Name). IsAmong x (z ∷ ys)) (sym (same_some y x h)) at_head
at_among x (y ∷ ys) (suc k) h = in_tail (at_among x ys k h)

pub at_in : (x : Name) (xs : List Name) (k : ℕ) → slice_get xs k ≡ Some x → is_in x xs ≡ true
at_in x [] k h = no_some x h
at_in x (y ∷ ys) zero h = subst (λ (z : Name). is_in x (z ∷ ys) ≡ true) (sym (same_some y x h)) (in_first x ys)
at_in x (y ∷ ys) (suc k) h = in_more x y ys (at_in x ys k h)

-- a name that stands once stands at its place
place_is : (x : Name) (xs : List Name) (k : ℕ) → AllDiffer xs → slice_get xs k ≡ Some x → place_in x xs ≡ k
place_is x [] k differ h = no_some x h
place_is x (y ∷ ys) zero differ h = ap (λ (b : Bool). if b then 0 else place_in x ys + 1) (subst (λ (z : Name). same x z ≡ true) (sym (same_some y x h)) (same_self x))
place_is x (y ∷ ys) (suc k) differ h = go (same x y) refl (place_is x ys k differ.1 h)
  where
    go : (b : Bool) → same x y ≡ b → place_in x ys ≡ k → (if b then 0 else place_in x ys + 1) ≡ suc k
    go true s e = absurd (differ.0 (subst (λ (z : Name). IsAmong z ys) (same_is x y s) (at_among x ys k h)))
    go false s e = omega (arith, e)

pub first_differ : (xs ys : List Name) → AllDiffer (xs ++ ys) → AllDiffer xs
first_differ [] ys h = tt
first_differ (x ∷ xs) ys h = (λ i. h.0 (longer i), first_differ xs ys h.1)
  where
    longer : {zs : List Name} → IsAmong x zs → IsAmong x (zs ++ ys)
    longer at_head = at_head
    longer (in_tail i) = in_tail (longer i)

pub second_differ : (xs ys : List Name) → AllDiffer (xs ++ ys) → AllDiffer ys
second_differ [] ys h = h
second_differ (x ∷ xs) ys h = second_differ xs ys h.1

names_append : (xs ys : List Decl) → names (xs ++ ys) ≡ names xs ++ names ys
names_append [] ys = refl
names_append (x ∷ xs) ys = ap (λ (l : List Name). x.name ∷ l) (names_append xs ys)

not_in : (x : Name) (xs : List Name) → (is_in x xs ≡ true → ⊥) → is_in x xs ≡ false
not_in x xs h = go (is_in x xs) refl
  where
    go : (b : Bool) → is_in x xs ≡ b → is_in x xs ≡ false
    go true e = absurd (h e)
    go false e = e

-- ---- left sides

abbrev pub lefts : List CoreEquation → List Name
lefts es = flat_map (λ e. e.left) es

-- an equation that has a name on its left side is found by it where none before has it
pub found_at : (x : Name) (front : List CoreEquation) (e : CoreEquation) (rest : List CoreEquation) → is_in x (lefts front) ≡ false → is_in x e.left ≡ true → find (λ d. is_in x d.left) (front ++ e ∷ rest) ≡ Some e
found_at x [] e rest h i = ap (λ b. if b then Some e else find (λ d. is_in x d.left) rest) i
found_at x (f ∷ front) e rest h i =
    let here = not_in x f.left (λ t. false≢true (sym h ∙ in_left x f.left (lefts front) t)) in
    let later = not_in x (lefts front) (λ t. false≢true (sym h ∙ in_right x f.left (lefts front) t)) in
    ap (λ b. if b then Some f else find (λ d. is_in x d.left) (front ++ e ∷ rest)) here ∙ found_at x front e rest later i

pub none_found : (x : Name) (es : List CoreEquation) → is_in x (lefts es) ≡ false → find (λ e. is_in x e.left) es ≡ None
none_found x [] h = refl
none_found x (e ∷ es) h =
    let here = not_in x e.left (λ t. false≢true (sym h ∙ in_left x e.left (lefts es) t)) in
    let later = not_in x (lefts es) (λ t. false≢true (sym h ∙ in_right x e.left (lefts es) t)) in
    ap (λ b. if b then Some e else find (λ e. is_in x e.left) es) here ∙ none_found x es later

pub lefts_append : (front rest : List CoreEquation) → lefts (front ++ rest) ≡ lefts front ++ lefts rest
lefts_append [] rest = refl
lefts_append (f ∷ front) rest = ap (λ (l : List Name). f.left ++ l) (lefts_append front rest) ∙ sym (append_assoc f.left (lefts front) (lefts rest))

-- ---- nodes that are well formed

module _ (core : Core) (node : CoreNode) (wf : IsWellFormedNode core node) where
  abbrev inputs : List Name
  inputs = names node.inputs

  abbrev others : List Name
  others = names (node.outputs ++ node.locals)

  declared : names (core_decls node) ≡ inputs ++ others
  declared = ap names (append_assoc node.inputs node.outputs node.locals) ∙ names_append node.inputs (node.outputs ++ node.locals)

  apart : AllDiffer (inputs ++ others)
  apart = subst AllDiffer declared wf.once

  pub input_is_none : (x : Name) → is_in x inputs ≡ true → is_in x (lefts_of node) ≡ false
  input_is_none x h = wf.defined x ∙ not_in x others (λ t. false≢true (sym (not_both x inputs others apart t) ∙ h))

  pub left_is_no_input : (x : Name) → is_in x (lefts_of node) ≡ true → is_in x inputs ≡ false
  left_is_no_input x h = not_both x inputs others apart (sym (wf.defined x) ∙ h)

  -- what is declared is an input or a left side
  pub input_or_left : (x : Name) → is_in x (names (core_decls node)) ≡ true → (is_in x inputs ≡ true) ⊎ (is_in x (lefts_of node) ≡ true)
  input_or_left x h = elim (in_either x inputs others (sym (ap (is_in x) declared) ∙ h)) [ inl i ↦ inl i | inr i ↦ inr (wf.defined x ∙ i) ]

  pub output_is_left : (x : Name) → is_in x (names node.outputs) ≡ true → is_in x (lefts_of node) ≡ true
  output_is_left x h = wf.defined x ∙ (ap (is_in x) (names_append node.outputs node.locals) ∙ in_left x (names node.outputs) (names node.locals) h)

  pub input_at : (k : ℕ) (x : Name) → slice_get inputs k ≡ Some x → IsInputAt node k x
  input_at k x h =
      let i = at_in x inputs k h in
      record { place = place_is x inputs k (first_differ inputs others apart) h; among = i; free = none_found x node.equations (input_is_none x i) }

  -- an equation at its place is found by each name of its left side
  pub found_by : (x : Name) (front : List CoreEquation) (e : CoreEquation) (rest : List CoreEquation) → node.equations ≡ front ++ e ∷ rest → is_in x e.left ≡ true → equation_of node x ≡ Some e
  found_by x front e rest all i =
      let one : AllDiffer (lefts front ++ lefts (e ∷ rest)) = subst AllDiffer (ap lefts all ∙ lefts_append front (e ∷ rest)) wf.one_left in
      ap (find (λ d. is_in x d.left)) all ∙ found_at x front e rest (not_both x (lefts front) (lefts (e ∷ rest)) one (in_left x e.left (lefts rest) i)) i

  pub left_among : (x : Name) (front : List CoreEquation) (e : CoreEquation) (rest : List CoreEquation) → node.equations ≡ front ++ e ∷ rest → is_in x e.left ≡ true → is_in x (lefts_of node) ≡ true
  left_among x front e rest all i = ap (λ (es : List CoreEquation). is_in x (lefts es)) all ∙ (ap (is_in x) (lefts_append front (e ∷ rest)) ∙ in_right x (lefts front) (lefts (e ∷ rest)) (in_left x e.left (lefts rest) i))

  left_differ : (front : List CoreEquation) (e : CoreEquation) (rest : List CoreEquation) → node.equations ≡ front ++ e ∷ rest → AllDiffer e.left
  left_differ front e rest all =
      let one : AllDiffer (lefts front ++ lefts (e ∷ rest)) = subst AllDiffer (ap lefts all ∙ lefts_append front (e ∷ rest)) wf.one_left in
      first_differ e.left (lefts rest) (second_differ (lefts front) (lefts (e ∷ rest)) one)

  -- and each name of it stands at its place
  pub found_by_all : (front : List CoreEquation) (e : CoreEquation) (rest : List CoreEquation) → node.equations ≡ front ++ e ∷ rest → (j : ℕ) (x : Name) → slice_get e.left j ≡ Some x →
      (equation_of node x ≡ Some e) × (place_in x e.left ≡ j) × (is_in x inputs ≡ false)
  found_by_all front e rest all j x h =
      let i = at_in x e.left j h in
      (found_by x front e rest all i, place_is x e.left j (left_differ front e rest all) h, left_is_no_input x (left_among x front e rest all i))
