-- What the equations of a scope's block define, and the states of its automata.
use Rattle.std.proofs.Common.{◌≡◌, ◌⊎◌, inl, inr, ℕ, suc, ◌+◌, ◌<◌, Bool, true, false, ◌||◌, List, [], ◌∷◌, ◌++◌, Option, Some, None, length, map, refl, sym, ap, subst, ◌∙◌, arith, add-one}
use Rattle.std.specs.Prelude.{if◌then◌else◌, ◌==◌, Contains, is_some, slice_get}
use Rattle.std.specs.List.{flat_map}
use Rattle.std.proofs.lemmas.Bool.{eqb-true, eq-eqb}
use Rattle.std.proofs.lemmas.List.Elements.{Contains-append_right}
use Rattle.std.proofs.lemmas.List.Folds.{list_any-append}
use Rattle.std.proofs.lemmas.List.{length-map, get_or-map}
use Rattle.hept_ast.specs.Texts.{Name, same, is_in, place_in, tag_value, branch_of}
use Rattle.hept_ast.specs.Scopes.{Clock, Scope, In_branch, In_body, block_of}
use Rattle.hept_ast.specs.Parts.{Surroundings, Case, seen_at, declaration, sets_of, block_sets, branch_case}
use Rattle.hept_ast.specs.Initial.{grade}
use Rattle.hept_ast.specs.Meaning.{Gives, Last, Defined, Defines, Active, Answer, Value, Is, Rule, Says, is_true, answer_to, if_defined, right_rule, defined_or_last, branch_rule, equation_rule}
use Rattle.hept_ast.specs.Outputs.{Follows, asked, said}
use Rattle.hept_ast.specs.declared.name.Place.{Place}
use Rattle.hept_ast.specs.declared.tree.Expr.{Expr}
use Rattle.hept_ast.specs.declared.tree.Block.{Block}
use Rattle.hept_ast.specs.declared.tree.Branch.{Branch}
use Rattle.hept_ast.specs.declared.tree.State.{State}
use Rattle.hept_ast.specs.declared.tree.Decl.{Decl}
use Rattle.hept_ast.specs.declared.tree.Ty.{Ty}
use Rattle.hept_ast.specs.declared.tree.Equation.{Equation, out-Equation, roll-Equation}
use Rattle.hept_ast.specs.declared.tree.Equation.TheOpen.{Equation-F}
use Rattle.hept_ast.specs.declared.tree.Equation.TheViews.{roll-out-Equation}
use Rattle.hept_ast.specs.declared.tree.Equation.TheVariants as equation
use Rattle.hept_ast.proofs.PartsOf.{sets-Define, sets-Switch, sets-Reset, sets-Automaton}
use Rattle.sound_expressions.specs.Sound.{Within, Sees, Sound}
use Rattle.accepted_meaning.specs.SoundNodes.{SoundLeft, no_left, a_left, SoundSwitch, HasNoGap, all_sets}
use Rattle.accepted_meaning.specs.Placing.{at_branch, at_reset, site_of}
use Rattle.accepted_meaning.specs.Running.{Run, StandsIn, setting_of, types_in, IsKnown}
use Rattle.accepted_meaning.specs.Structure.{IsEquationOf, IsNotLocal}
use Rattle.sound_expressions.proofs.FittedTypes.{same_is, one_of}
use Rattle.accepted_meaning.proofs.FitsWords.{unknown, says, asks, if_ends, as_is}
use Rattle.accepted_meaning.proofs.FitsTruths.{Known, known_by, same_answer, base_present}
use Rattle.accepted_meaning.proofs.FitsKept.{Texts, Okay, gone, missing, given, Ended, is_given, okay_given, okay_as, go_on_ends}
use Rattle.accepted_meaning.proofs.FitsCalls.{only_at}
use Rattle.accepted_meaning.proofs.FitsForms.{some_is}
use Rattle.accepted_meaning.proofs.FitsScopes.{find_parts, present_around_body}

-- ---- what equations define, by their views

abbrev pub sets_view : Equation-F Equation Block Branch State → List Name
sets_view (Equation-F.Define p left right) = left
sets_view (Equation-F.Switch p on branches) = flat_map (λ b. block_sets b.block) branches
sets_view (Equation-F.Reset p block every) = block_sets block
sets_view (Equation-F.Automaton p states) = flat_map (λ q. block_sets q.block) states

pub rolled_sets : (v : Equation-F Equation Block Branch State) → sets_of (roll-Equation v) ≡ sets_view v
rolled_sets (Equation-F.Define p left right) = ap sets_of (equation.rolls-Define p left right) ∙ sets-Define p left right
rolled_sets (Equation-F.Switch p on branches) = ap sets_of (equation.rolls-Switch p on branches) ∙ sets-Switch p on branches
rolled_sets (Equation-F.Reset p block every) = ap sets_of (equation.rolls-Reset p block every) ∙ sets-Reset p block every
rolled_sets (Equation-F.Automaton p states) = ap sets_of (equation.rolls-Automaton p states) ∙ sets-Automaton p states

pub sets_are : (e : Equation) (v : Equation-F Equation Block Branch State) → out-Equation e ≡ v → sets_of e ≡ sets_view v
sets_are e v is = ap sets_of (sym (roll-out-Equation e)) ∙ rolled_sets (out-Equation e) ∙ ap sets_view is

pub mapped_sets : {A B : Type 0} (f : A → Case B) (xs : List A) → all_sets (map f xs) ≡ flat_map (λ x. (f x).sets) xs
mapped_sets f [] = refl
mapped_sets f (x ∷ xs) = ap (λ (ys : List Name). (f x).sets ++ ys) (mapped_sets f xs)

-- a variable that is seen where an equation stands, which defines it
pub record Defining (r : Run) (k : Within) (s : Scope) (x : Name) (d : Decl) (c : Clock) (e : Equation) : Type 0 where
  pub stands : IsEquationOf r k s e
  pub sees : Sees k (site_of s) x d c
  pub sets : is_in x (sets_of e) ≡ true

abbrev pub Variable_okay : Run → Within → Scope → Name → Decl → Clock → ℕ → Answer → Type 0
Variable_okay r k s x d c t a = Okay r (k.grade x) d.ty c s t a

-- ---- plain equations

-- the name on a left side, with its type
pub record Left_at (k : Within) (site : Surroundings) (c : Clock) (x : Name) (left : List Name) (ts : List Ty) : Type 0 where
  pub decl : Decl
  pub sees : Sees k site x decl c
  pub type : slice_get ts (place_in x left) ≡ Some decl.ty

pub left_at : (k : Within) (site : Surroundings) (c : Clock) (x : Name) (left : List Name) (ts : List Ty) → SoundLeft k site c left ts → is_in x left ≡ true → Left_at k site c x left ts
left_at k site c x left ts no_left e = cc
left_at k site c x left ts (a_left {x = y} {xs = ys} {d = d} {ts = us} sees input rest) e = go (same x y) refl (λ h. left_at k site c x ys us rest h) e
  where
    go : (b : Bool) → same x y ≡ b → (is_in x ys ≡ true → Left_at k site c x ys us) → (b || is_in x ys) ≡ true → Left_at k site c x (y ∷ ys) (d.ty ∷ us)
    go true h later f = record {
      decl = d;
      sees = subst (λ (z : Name). Sees k site z d c) (sym (same_is x y h)) sees;
      type = ap (λ (b : Bool). slice_get (d.ty ∷ us) (if b then 0 else place_in x ys + 1)) h;
    }
    go false h later f =
        let l : Left_at k site c x ys us = later f in
        record { decl = l.decl; sees = l.sees; type = ap (λ (b : Bool). slice_get (d.ty ∷ us) (if b then 0 else place_in x ys + 1)) h ∙ ap (slice_get (d.ty ∷ us)) (add-one (place_in x ys)) ∙ l.type }

pub left_length : (k : Within) (site : Surroundings) (c : Clock) (left : List Name) (ts : List Ty) → SoundLeft k site c left ts → length left ≡ length ts
left_length k site c left ts no_left = refl
left_length k site c left ts (a_left {xs = ys} {ts = us} sees input rest) = ap suc (left_length k site c ys us rest)

same_decl : (k : Within) (site : Surroundings) (x : Name) (d e : Decl) (b c : Clock) → Sees k site x d b → Sees k site x e c → d ≡ e
same_decl k site x d e b c h i = some_is d e (sym h.declared ∙ i.declared)

grade_less : (g h : Bool) → (g ≡ false → h ≡ false) → h ≡ true → g ≡ true
grade_less true h f e = refl
grade_less false h f e = let i : h ≡ false = f refl in cc

right_ends : (r : Run) → Texts r → (k : Within) (s : Scope) (x : Name) (d : Decl) (c : Clock) (t : ℕ) (e : Equation) (p : Place) (left : List Name) (right : Expr) (ts : List Ty) →
    Defining r k s x d c e → out-Equation e ≡ Equation-F.Define p left right → is_in x left ≡ true → Sound k (site_of s) right c ts → length left ≡ length ts → slice_get ts (place_in x left) ≡ Some d.ty →
    Ended r (Variable_okay r k s x d c t) (right_rule (setting_of r) left right x c s t)
right_ends r texts k s x d c t e p left right ts h is sets sound long at = if_ends (length left == 1)
    (λ one. asks (λ a i. says (okay_as r (grade k.grade right.form) (k.grade x) d.ty d.ty c s t a
    (grade_less (k.grade x) (grade k.grade right.form) (λ g. texts.grade_of_right k s e p left right x h.stands is sets g)) (λ v f. f)
    (i.fits k d.ty h.stands.stands (alone (one_of ts (ap (λ n. n == 1) (sym long) ∙ one)))))))
    (λ more. asks (λ a i. says (okay_as r false (k.grade x) d.ty d.ty c s t a (λ g. let f : false ≡ true = g in cc) (λ v f. f) (i.fits k ts d.ty h.stands.stands sound at))))
  where
    alone : (u : Ty) × (ts ≡ u ∷ []) → Sound k (site_of s) right c (d.ty ∷ [])
    alone o =
        let only = only_at o.0 (place_in x left) d.ty (ap (λ (us : List Ty). slice_get us (place_in x left)) (sym o.1) ∙ at) in
        subst (λ (u : Ty). Sound k (site_of s) right c (u ∷ [])) only.1 (subst (λ (us : List Ty). Sound k (site_of s) right c us) o.1 sound)

pub define_ends : (r : Run) → Texts r → (k : Within) (s : Scope) (x : Name) (d : Decl) (c : Clock) (t : ℕ) (e : Equation) (p : Place) (left : List Name) (right : Expr) →
    Defining r k s x d c e → out-Equation e ≡ Equation-F.Define p left right → Ended r (Variable_okay r k s x d c t) (equation_rule (setting_of r) (Equation-F.Define p left right) x s t)
define_ends r texts k s x d c t e p left right h is =
    let o = texts.define k s e p left right h.stands is in
    let sets : is_in x left ≡ true = ap (is_in x) (sym (sets_are e (Equation-F.Define p left right) is)) ∙ h.sets in
    let l : Left_at k (site_of s) o.0 x left o.1 = left_at k (site_of s) o.0 x left o.1 o.3 sets in
    let clock : o.0 ≡ c = sym (texts.clock_of_seen k (site_of s) x l.decl o.0 l.sees) ∙ texts.clock_of_seen k (site_of s) x d c h.sees in
    let decl : l.decl ≡ d = same_decl k (site_of s) x l.decl d o.0 c l.sees h.sees in
    subst (λ (y : Clock). Ended r (Variable_okay r k s x d c t) (right_rule (setting_of r) left right x y s t)) (sym (texts.clock_here k s x d c h.stands.stands h.sees))
    (right_ends r texts k s x d c t e p left right o.1 h is sets (subst (λ (y : Clock). Sound k (site_of s) right y o.1) clock o.2) (left_length k (site_of s) o.0 left o.1 o.3)
    (l.type ∙ ap (λ (y : Decl). Some y.ty) decl))

-- ---- blocks inside an equation

or_first : (a b : Bool) → a ≡ true → (a || b) ≡ true
or_first a b e = cc

or_neither : (a b : Bool) → a ≡ false → (a || b) ≡ b
or_neither a b e = cc

pub defines_truth : (r : Run) → Texts r → (k : Within) (s : Scope) (e : Equation) (x : Name) (d : Decl) (a : Answer) → IsEquationOf r k s e → declaration (seen_at k.node (site_of s)) x ≡ Some d →
    IsKnown r (Defines x e) a → is_true a ≡ is_in x (sets_of e)
defines_truth r texts k s e x d a h declared known = ap is_true (same_answer r (Defines x e) a (Is (is_in x (sets_of e))) known (texts.defines k s e x d (setting_of r) r.rows h declared))

-- each answer of what goes on by whether one of a block's equations defines a variable
defined_ends : (r : Run) → Texts r → (P : Answer → Type 0) (k : Within) (i : Scope) (x : Name) (d : Decl) → StandsIn r k i → declaration (seen_at k.node (site_of i)) x ≡ Some d → (go : Bool → Rule) (es : List Equation) →
    ((e : Equation) → Contains es e → Contains (block_of i).body e) → (is_in x (flat_map sets_of es) ≡ true → Ended r P (go true)) → (is_in x (flat_map sets_of es) ≡ false → Ended r P (go false)) →
    Ended r P (if_defined x es go)
defined_ends r texts P k i x d stands declared go [] inside some none = none refl
defined_ends r texts P k i x d stands declared go (e ∷ es) inside some none =
    asks (λ a h. step (is_true a) (defines_truth r texts k i e x d a (record { stands = stands; in_block = inside e (0, omega arith, refl) }) declared h.known)
    (λ y n. defined_ends r texts P k i x d stands declared go es (λ f c. inside f (Contains-append_right (e ∷ []) es f c)) y n))
  where
    joined : is_in x (flat_map sets_of (e ∷ es)) ≡ (is_in x (sets_of e) || is_in x (flat_map sets_of es))
    joined = list_any-append (same x) (sets_of e) (flat_map sets_of es)

    step : (b : Bool) → b ≡ is_in x (sets_of e) → ((is_in x (flat_map sets_of es) ≡ true → Ended r P (go true)) → (is_in x (flat_map sets_of es) ≡ false → Ended r P (go false)) → Ended r P (if_defined x es go)) →
        Ended r P (if b then go true else if_defined x es go)
    step true is rest = some (joined ∙ or_first (is_in x (sets_of e)) (is_in x (flat_map sets_of es)) (sym is))
    step false is rest =
        let only : is_in x (flat_map sets_of (e ∷ es)) ≡ is_in x (flat_map sets_of es) = joined ∙ or_neither (is_in x (sets_of e)) (is_in x (flat_map sets_of es)) (sym is) in
        rest (λ f. some (only ∙ f)) (λ f. none (only ∙ f))

-- the definition inside a branch or state that is active, or the last value
pub inner_ends : (r : Run) → Texts r → (k : Within) (s i : Scope) (x : Name) (d : Decl) (c : Clock) (t : ℕ) → StandsIn r k s → Sees k (site_of s) x d c → k.grade x ≡ false →
    StandsIn r k i → Sees k (site_of i) x d [] → IsKnown r (Active i t) (Is true) → (is_in x (flat_map sets_of (block_of i).body) ≡ false → is_some d.init ≡ true) →
    Ended r (Variable_okay r k s x d c t) (defined_or_last (setting_of r) (block_of i) x i s t)
inner_ends r texts k s i x d c t stands sees defined inner inner_sees active init =
    defined_ends r texts (Variable_okay r k s x d c t) k i x d inner inner_sees.declared (λ some. if some then answer_to (Defined x i t) else answer_to (Last x s t)) (block_of i).body (λ e h. h)
    (λ y. asks (λ a h. says (okay_given r (k.grade x) d.ty c s t a (is_given r (k.grade x) d.ty [] i t a (h.fits k d [] inner inner_sees) defined (base_present r i t active)))))
    (λ n. asks (λ a h. says (okay_given r (k.grade x) d.ty c s t a (h.fits k d c stands sees (init n)))))

-- ---- switches

true_is : Is true ≡ Is false → ⊥
true_is e = cc

pub mapped_contains : {A B : Type 0} (f : A → B) (xs : List A) (x : A) → Contains xs x → Contains (map f xs) (f x)
mapped_contains f xs x (n, less, at) = (n, subst (λ (m : ℕ). n < m) (sym (length-map xs f)) less, get_or-map f xs n x (f x) less ∙ ap f at)

pub no_gap : {A : Type 0} (r : Run) (k : Within) (s : Scope) (x : Name) (d : Decl) (c : Clock) (cases : List (Case A)) (one : Case A) → Sees k (site_of s) x d c → HasNoGap k (site_of s) cases → Contains cases one →
    is_in x (all_sets cases) ≡ true → is_in x one.sets ≡ false → is_some d.init ≡ true
no_gap r k s x d c cases one sees gap inside sets none = by_cases (gap one x inside sets)
  where
    by_cases : (is_in x one.sets ≡ true) ⊎ ((e : Decl) × (declaration (seen_at k.node (site_of s)) x ≡ Some e) × (is_some e.init ≡ true)) → is_some d.init ≡ true
    by_cases (inl h) = let f : true ≡ false = sym h ∙ none in cc
    by_cases (inr h) = ap (λ (y : Decl). is_some y.init) (some_is d h.0 (sym sees.declared ∙ h.1)) ∙ h.2

branch_ends : (r : Run) → Texts r → (k : Within) (s : Scope) (x : Name) (d : Decl) (t v : ℕ) (e : Equation) (p : Place) (on : Expr) (branches : List Branch) → Defining r k s x d [] e →
    out-Equation e ≡ Equation-F.Switch p on branches → k.grade x ≡ false → HasNoGap k (site_of s) (map branch_case branches) → is_in x (all_sets (map branch_case branches)) ≡ true → IsKnown r (Gives on [] s t) (Value v) →
    (o : Option Branch) → branch_of (types_in r) v branches ≡ o → Ended r (Variable_okay r k s x d [] t) (branch_rule (setting_of r) o on x s t)
branch_ends r texts k s x d t v e p on branches h is defined gap sets value None found = unknown
branch_ends r texts k s x d t v e p on branches h is defined gap sets value (Some b) found =
    let f : Contains branches b × ((tag_value (types_in r) b.tag == v) ≡ true) = find_parts (λ (y : Branch). tag_value (types_in r) y.tag == v) branches b found in
    let st : StandsIn r k s = h.stands.stands in
    let inner : StandsIn r k (In_branch s on b) = record { number = st.number; of_node = st.of_node; text = st.text; placed = at_branch st.placed h.stands.in_block is f.0 } in
    let local : IsNotLocal x b.block = texts.not_local_in_branch k s e p on branches b x d h.stands is f.0 h.sees.declared in
    let back : (v == tag_value (types_in r) b.tag) ≡ true = eq-eqb v (tag_value (types_in r) b.tag) (sym (eqb-true (tag_value (types_in r) b.tag) v f.1)) in
    let active : IsKnown r (Active (In_branch s on b) t) (Is true) =
    known_by r (Active (In_branch s on b) t) (Is true) (asked value (subst (λ (y : Bool). Follows (Known r) r.rows (Says (Is y)) (Is true)) (sym back) said)) (λ i. cc) in
    inner_ends r texts k s (In_branch s on b) x d [] t st h.sees defined inner (texts.sees_in_branch k s e p on branches b x d h.stands is f.0 h.sees) active
    (λ none. no_gap r k s x d [] (map branch_case branches) (branch_case b) h.sees gap (mapped_contains branch_case branches b f.0) sets (local.1 ∙ none))

-- a variable on the base clock
pub at_base : (r : Run) (k : Within) (s : Scope) (x : Name) (d : Decl) (c : Clock) (t : ℕ) (e : Equation) (f : Rule) → c ≡ [] → Defining r k s x d c e →
    (Defining r k s x d [] e → Ended r (Variable_okay r k s x d [] t) f) → Ended r (Variable_okay r k s x d c t) f
at_base r k s x d c t e f base h g =
    subst (λ (y : Clock). Ended r (Variable_okay r k s x d y t) f) (sym base) (g (subst (λ (y : Clock). Defining r k s x d y e) base h))

pub switch_ends : (r : Run) → Texts r → (k : Within) (s : Scope) (x : Name) (d : Decl) (c : Clock) (t : ℕ) (e : Equation) (p : Place) (on : Expr) (branches : List Branch) →
    Defining r k s x d c e → out-Equation e ≡ Equation-F.Switch p on branches → Ended r (Variable_okay r k s x d c t) (equation_rule (setting_of r) (Equation-F.Switch p on branches) x s t)
switch_ends r texts k s x d c t e p on branches h is =
    let o : SoundSwitch k (site_of s) on (map branch_case branches) = texts.switch k s e p on branches h.stands is in
    let sets : is_in x (all_sets (map branch_case branches)) ≡ true =
    ap (is_in x) (mapped_sets branch_case branches ∙ sym (sets_are e (Equation-F.Switch p on branches) is)) ∙ h.sets in
    let outside : (k.clock x ≡ []) × (k.grade x ≡ false) = o.sound_cases.0 x d sets h.sees.declared in
    at_base r k s x d c t e _ (sym (texts.clock_of_seen k (site_of s) x d c h.sees) ∙ outside.0) h
    (λ b. asks (λ a i. go_on_ends r (Variable_okay r k s x d [] t) (grade k.grade on.form) o.type [] s t a _ (i.fits k o.type b.stands.stands o.sound)
    (λ off. gone off) (λ g n. absurd (let f : true ≡ false = sym g ∙ o.defined in cc))
    (λ v was f. branch_ends r texts k s x d t v e p on branches b is outside.1 o.sound_cases.1 sets (as_is r (Gives on [] s t) a (Value v) was i.known) _ refl)))

-- ---- resets

pub reset_ends : (r : Run) → Texts r → (k : Within) (s : Scope) (x : Name) (d : Decl) (c : Clock) (t : ℕ) (e : Equation) (p : Place) (block : Block) (every : Expr) →
    Defining r k s x d c e → out-Equation e ≡ Equation-F.Reset p block every → Ended r (Variable_okay r k s x d c t) (equation_rule (setting_of r) (Equation-F.Reset p block every) x s t)
reset_ends r texts k s x d c t e p block every h is =
    let o = texts.reset k s e p block every h.stands is in
    let sets : is_in x (block_sets block) ≡ true = ap (is_in x) (sym (sets_are e (Equation-F.Reset p block every) is)) ∙ h.sets in
    let defined : k.grade x ≡ false = o.1 x d sets h.sees.declared in
    let st : StandsIn r k s = h.stands.stands in
    let inner : StandsIn r k (In_body s every block) = record { number = st.number; of_node = st.of_node; text = st.text; placed = at_reset st.placed h.stands.in_block is } in
    asks (λ a i. says (around a defined inner (i.fits k d c inner (texts.sees_in_body k s e p block every x d c h.stands is h.sees))))
  where
    around : (a : Answer) → k.grade x ≡ false → StandsIn r k (In_body s every block) → Okay r (k.grade x) d.ty c (In_body s every block) t a → Variable_okay r k s x d c t a
    around a defined inner (gone off) = gone (present_around_body r texts k s every block x d c t false h.stands.stands inner h.sees off)
    around a defined inner (missing g n) = absurd (let f : true ≡ false = sym g ∙ defined in cc)
    around a defined inner (given f) = given f
