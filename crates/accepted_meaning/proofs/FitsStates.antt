-- What automata define, and their states.
use Rattle.std.proofs.Common.{◌≡◌, ℕ, zero, suc, ◌<◌, Bool, true, false, List, [], ◌∷◌, Option, Some, None, length, map, refl, sym, ap, subst, ◌∙◌, arith}
use Rattle.std.specs.Prelude.{Contains, slice_get}
use Rattle.std.specs.List.{flat_map}
use Rattle.std.proofs.lemmas.Bool.{eq-eqb}
use Rattle.std.proofs.lemmas.List.Elements.{Contains-append_right}
use Rattle.std.proofs.lemmas.Option.{get_or_from_slice_get, slice_get_within}
use Rattle.hept_ast.specs.Texts.{Name, is_in}
use Rattle.hept_ast.specs.Scopes.{Clock, Text, Scope, In_state, text_of, block_of, state_block, block_or_none}
use Rattle.hept_ast.specs.Parts.{sets_of, block_sets, state_case}
use Rattle.hept_ast.specs.InnerParts.{state_names}
use Rattle.hept_ast.specs.Meaning.{Active, Restarted, Active_state, Left_state, Answer, Absent, Is, State_at, Rule, Says, is_true, go_on_state, on_state, defined_or_last, equation_rule, block_rule, defined_rule, taken, strong_of, weak_of, from_pending, active_state_rule, left_state_rule}
use Rattle.hept_ast.specs.Outputs.{Follows, asked, said}
use Rattle.hept_ast.specs.declared.name.Place.{Place}
use Rattle.hept_ast.specs.declared.tree.Block.{Block}
use Rattle.hept_ast.specs.declared.tree.Branch.{Branch}
use Rattle.hept_ast.specs.declared.tree.State.{State}
use Rattle.hept_ast.specs.declared.tree.Escape.{Escape}
use Rattle.hept_ast.specs.declared.tree.Decl.{Decl}
use Rattle.hept_ast.specs.declared.tree.Equation.{Equation, out-Equation}
use Rattle.hept_ast.specs.declared.tree.Equation.TheOpen.{Equation-F}
use Rattle.sound_expressions.specs.Sound.{Within, Sees}
use Rattle.accepted_meaning.specs.SoundNodes.{HasNoGap, all_sets}
use Rattle.accepted_meaning.specs.Placing.{at_state, site_of}
use Rattle.accepted_meaning.specs.Running.{Run, StandsIn, setting_of, IsKnown}
use Rattle.accepted_meaning.specs.Structure.{IsEquationOf, IsNotLocal}
use Rattle.accepted_meaning.proofs.FitsWords.{unknown, says, asks, if_ends, as_is, truth_is, previous_ends}
use Rattle.accepted_meaning.proofs.FitsTruths.{Known, known_by, not_both, active_truth, restarted_truth, off_present}
use Rattle.accepted_meaning.proofs.FitsKept.{Texts, gone, StateOkay, state_gone, state_given, Holds, Ended, keeping}
use Rattle.accepted_meaning.proofs.FitsDefined.{sets_are, mapped_sets, mapped_contains, no_gap, inner_ends, at_base, defines_truth, define_ends, switch_ends, reset_ends, Defining, Variable_okay}

-- ---- states

go_on_state_ends : (r : Run) (P : Answer → Type 0) (s : Scope) (states : List State) (t : ℕ) (a : Answer) (go : ℕ → Bool → Rule) → StateOkay r s states t a →
    (IsKnown r (Active s t) (Is false) → P Absent) → ((j : ℕ) (mark : Bool) → a ≡ State_at j mark → (0 < length states → j < length states) → Ended r P (go j mark)) → Ended r P (go_on_state a go)
go_on_state_ends r P s states t a go (state_gone off) absent there = says (absent off)
go_on_state_ends r P s states t a go (state_given less) absent there = there _ _ refl less

within_list : {A : Type 0} (xs : List A) (j : ℕ) → j < length xs → (x : A) × (slice_get xs j ≡ Some x)
within_list [] j h = absurd (omega (arith, h))
within_list (x ∷ xs) zero h = (x, refl)
within_list (x ∷ xs) (suc j) h = within_list xs j (omega (arith, h))

pub contains_at : {A : Type 0} (xs : List A) (j : ℕ) (x : A) → slice_get xs j ≡ Some x → Contains xs x
contains_at xs j x e = (j, slice_get_within xs j x e, get_or_from_slice_get xs j x x e)

some_sets : {A : Type 0} (f : A → List Name) (xs : List A) (x : Name) → is_in x (flat_map f xs) ≡ true → 0 < length xs
some_sets f [] x e = cc
some_sets f (y ∷ ys) x e = omega arith

-- the scope of a state of an automaton of a scope's block
pub state_stands : (r : Run) (k : Within) (s : Scope) (e : Equation) (p : Place) (states : List State) (j : ℕ) (q : State) → IsEquationOf r k s e → out-Equation e ≡ Equation-F.Automaton p states → slice_get states j ≡ Some q →
    StandsIn r k (In_state s states j)
state_stands r k s e p states j q h is at =
    record { number = h.stands.number; of_node = h.stands.of_node; text = h.stands.text; placed = at_state h.stands.placed h.in_block is at }

state_ends : (r : Run) → Texts r → (k : Within) (s : Scope) (x : Name) (d : Decl) (t : ℕ) (e : Equation) (p : Place) (states : List State) (j : ℕ) (mark : Bool) (q : State) → Defining r k s x d [] e →
    out-Equation e ≡ Equation-F.Automaton p states → k.grade x ≡ false → HasNoGap k (site_of s) (map state_case states) → is_in x (all_sets (map state_case states)) ≡ true →
    IsKnown r (Active_state s states t) (State_at j mark) → slice_get states j ≡ Some q → Ended r (Variable_okay r k s x d [] t) (defined_or_last (setting_of r) (state_block states j) x (In_state s states j) s t)
state_ends r texts k s x d t e p states j mark q h is defined gap sets state at =
    let st : StandsIn r k s = h.stands.stands in
    let inner : StandsIn r k (In_state s states j) = state_stands r k s e p states j q h.stands is at in
    let local : IsNotLocal x q.block = texts.not_local_in_state k s e p states j q x d h.stands is at h.sees.declared in
    let active : IsKnown r (Active (In_state s states j) t) (Is true) =
    known_by r (Active (In_state s states j) t) (Is true) (asked state (subst (λ (y : Bool). Follows (Known r) r.rows (Says (Is y)) (Is true)) (sym (eq-eqb j j refl)) said)) (λ i. cc) in
    inner_ends r texts k s (In_state s states j) x d [] t st h.sees defined inner (texts.sees_in_state k s e p states j q x d h.stands is at h.sees) active
    (λ none. no_gap r k s x d [] (map state_case states) (state_case q) h.sees gap (mapped_contains state_case states q (contains_at states j q at)) sets
    (local.1 ∙ ap (λ (o : Option State). is_in x (flat_map sets_of (block_or_none o).body)) (sym at) ∙ none))

automaton_ends : (r : Run) → Texts r → (k : Within) (s : Scope) (x : Name) (d : Decl) (c : Clock) (t : ℕ) (e : Equation) (p : Place) (states : List State) →
    Defining r k s x d c e → out-Equation e ≡ Equation-F.Automaton p states → Ended r (Variable_okay r k s x d c t) (equation_rule (setting_of r) (Equation-F.Automaton p states) x s t)
automaton_ends r texts k s x d c t e p states h is =
    let o = texts.automaton k s e p states h.stands is in
    let own : is_in x (flat_map (λ (q : State). block_sets q.block) states) ≡ true = ap (is_in x) (sym (sets_are e (Equation-F.Automaton p states) is)) ∙ h.sets in
    let sets : is_in x (all_sets (map state_case states)) ≡ true = ap (is_in x) (mapped_sets state_case states) ∙ own in
    let outside : (k.clock x ≡ []) × (k.grade x ≡ false) = o.0 x d sets h.sees.declared in
    at_base r k s x d c t e _ (sym (texts.clock_of_seen k (site_of s) x d c h.sees) ∙ outside.0) h
    (λ b. asks (λ a i. go_on_state_ends r (Variable_okay r k s x d [] t) s states t a _ (i.fits k e p b.stands.stands b.stands.in_block is)
    (λ off. gone (off_present r [] s t off))
    (λ j mark was less.
    let q = within_list states j (less (some_sets (λ (y : State). block_sets y.block) states x own)) in
    state_ends r texts k s x d t e p states j mark q.0 b is outside.1 o.1 sets (as_is r (Active_state s states t) a (State_at j mark) was i.known) q.1)))

-- ---- blocks

equation_ends : (r : Run) → Texts r → (k : Within) (s : Scope) (x : Name) (d : Decl) (c : Clock) (t : ℕ) (e : Equation) (v : Equation-F Equation Block Branch State) →
    Defining r k s x d c e → out-Equation e ≡ v → Ended r (Variable_okay r k s x d c t) (equation_rule (setting_of r) v x s t)
equation_ends r texts k s x d c t e (Equation-F.Define p left right) h is = define_ends r texts k s x d c t e p left right h is
equation_ends r texts k s x d c t e (Equation-F.Switch p on branches) h is = switch_ends r texts k s x d c t e p on branches h is
equation_ends r texts k s x d c t e (Equation-F.Reset p block every) h is = reset_ends r texts k s x d c t e p block every h is
equation_ends r texts k s x d c t e (Equation-F.Automaton p states) h is = automaton_ends r texts k s x d c t e p states h is

block_ends : (r : Run) → Texts r → (k : Within) (s : Scope) (x : Name) (d : Decl) (c : Clock) (t : ℕ) → StandsIn r k s → Sees k (site_of s) x d c → (es : List Equation) →
    ((e : Equation) → Contains es e → Contains (block_of s).body e) → Ended r (Variable_okay r k s x d c t) (block_rule (setting_of r) es x s t)
block_ends r texts k s x d c t stands sees [] inside = unknown
block_ends r texts k s x d c t stands sees (e ∷ es) inside =
    let of_block : IsEquationOf r k s e = record { stands = stands; in_block = inside e (0, omega arith, refl) } in
    asks (λ a i. if_ends (is_true a)
    (λ y. equation_ends r texts k s x d c t e (out-Equation e) (record { stands = of_block; sees = sees; sets = sym (defines_truth r texts k s e x d a of_block sees.declared i.known) ∙ y }) refl)
    (λ n. block_ends r texts k s x d c t stands sees es (λ f g. inside f (Contains-append_right (e ∷ []) es f g))))

pub defined_by : (r : Run) → Texts r → (k : Within) (s : Scope) (x : Name) (d : Decl) (c : Clock) (t : ℕ) → StandsIn r k s → Sees k (site_of s) x d c →
    Ended r (Variable_okay r k s x d c t) (defined_rule (setting_of r) (text_of s) x s t)
defined_by r texts k s x d c t stands sees =
    subst (λ (y : Text). Ended r (Variable_okay r k s x d c t) (defined_rule (setting_of r) y x s t)) (sym stands.text) (block_ends r texts k s x d c t stands sees (block_of s).body (λ e h. h))

-- ---- transitions

taken_ends : (r : Run) → Texts r → (s : Scope) (states : List State) (t : ℕ) (none : Answer) (i : Scope) → StateOkay r s states t none → (es : List Escape) →
    ((e : Escape) → Contains es e → is_in e.target (state_names states) ≡ true) → Ended r (StateOkay r s states t) (taken (setting_of r) es states none i t)
taken_ends r texts s states t none i okay [] targets = says okay
taken_ends r texts s states t none i okay (e ∷ es) targets = asks (λ a h. if_ends (is_true a)
    (λ y. says (state_given (λ some. texts.state_of_name e.target states (targets e (0, omega arith, refl)))))
    (λ n. taken_ends r texts s states t none i okay es (λ f g. targets f (Contains-append_right (e ∷ []) es f g))))

strong_ends : (r : Run) → Texts r → (k : Within) (s : Scope) (e : Equation) (p : Place) (states : List State) (t j : ℕ) (mark : Bool) → IsEquationOf r k s e → out-Equation e ≡ Equation-F.Automaton p states →
    (0 < length states → j < length states) → Ended r (StateOkay r s states t) (from_pending (setting_of r) s states t j mark)
strong_ends r texts k s e p states t j mark h is less = by_state (slice_get states j) refl
  where
    by_state : (o : Option State) → slice_get states j ≡ o → Ended r (StateOkay r s states t) (taken (setting_of r) (strong_of (setting_of r) o) states (State_at j mark) s t)
    by_state None at = taken_ends r texts s states t (State_at j mark) s (state_given less) [] (λ f g. absurd (let l = g.1 in omega (arith, l)))
    by_state (Some q) at = taken_ends r texts s states t (State_at j mark) s (state_given less) q.strong (λ f g. (texts.strong k s e p states j q f h is at g).1)

weak_ends : (r : Run) → Texts r → (k : Within) (s : Scope) (e : Equation) (p : Place) (states : List State) (t j : ℕ) → IsEquationOf r k s e → out-Equation e ≡ Equation-F.Automaton p states →
    (0 < length states → j < length states) → Ended r (StateOkay r s states t) (taken (setting_of r) (weak_of (setting_of r) (slice_get states j)) states (State_at j false) (In_state s states j) t)
weak_ends r texts k s e p states t j h is less = by_state (slice_get states j) refl
  where
    by_state : (o : Option State) → slice_get states j ≡ o → Ended r (StateOkay r s states t) (taken (setting_of r) (weak_of (setting_of r) o) states (State_at j false) (In_state s states j) t)
    by_state None at = taken_ends r texts s states t (State_at j false) (In_state s states j) (state_given less) [] (λ f g. absurd (let l = g.1 in omega (arith, l)))
    by_state (Some q) at = taken_ends r texts s states t (State_at j false) (In_state s states j) (state_given less) q.weak (λ f g. (texts.weak k s e p states j q f h is at g).1)

pub active_state_ends : (r : Run) → Texts r → (k : Within) (s : Scope) (e : Equation) (p : Place) (states : List State) (t : ℕ) → IsEquationOf r k s e → out-Equation e ≡ Equation-F.Automaton p states →
    Ended r (StateOkay r s states t) (active_state_rule (setting_of r) s states t)
active_state_ends r texts k s e p states t h is = asks (λ a i. if_ends (is_true a)
    (λ y. previous_ends r (Holds r) (StateOkay r s states t) (keeping r) (λ n. Active s n) (λ n. Restarted s n) (λ n. on_state (Left_state s states n) (from_pending (setting_of r) s states t)) _
    (λ n b l. active_truth r s n b l) (λ n b l. restarted_truth r s n b l) t
    (λ earlier. asks (λ b l. go_on_state_ends r (StateOkay r s states t) s states earlier.instant b _ (l.fits k e p h.stands h.in_block is)
    (λ off. absurd (not_both r (Active s earlier.instant) earlier.there off))
    (λ j mark was less. strong_ends r texts k s e p states t j mark h is less)))
    (λ never. strong_ends r texts k s e p states t 0 false h is (λ some. some)))
    (λ n. says (state_gone (as_is r (Active s t) a (Is false) (truth_is a false (active_truth r s t a i.known) n) i.known))))

pub left_state_ends : (r : Run) → Texts r → (k : Within) (s : Scope) (e : Equation) (p : Place) (states : List State) (t : ℕ) → IsEquationOf r k s e → out-Equation e ≡ Equation-F.Automaton p states →
    Ended r (StateOkay r s states t) (left_state_rule (setting_of r) s states t)
left_state_ends r texts k s e p states t h is = asks (λ a i. go_on_state_ends r (StateOkay r s states t) s states t a _ (i.fits k e p h.stands h.in_block is)
    (λ off. state_gone off) (λ j mark was less. weak_ends r texts k s e p states t j h is less))
