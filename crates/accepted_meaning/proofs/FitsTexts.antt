-- Where the parts of a scope's block stand in its node, and the clocks of what a scope sees.
use Rattle.std.proofs.Common.{◌≡◌, ◌⊎◌, inl, inr, ℕ, ◌||◌, Bool, true, false, List, [], ◌∷◌, ◌++◌, Some, map, refl, sym, ◌∙◌, ap, subst}
use Rattle.std.specs.Prelude.{if◌then◌else◌, Contains, slice_get}
use Rattle.std.specs.List.{flat_map}
use Rattle.std.proofs.lemmas.List.Elements.{Contains-append_left, Contains-append_right}
use Rattle.hept_ast.specs.Texts.{Name, is_in, names}
use Rattle.hept_ast.specs.Scopes.{Clock, Text, Written, Scope, Top, Called, In_branch, In_body, In_state, Under, text_of, block_of, state_block, block_or_none, declares, node_decls}
use Rattle.hept_ast.specs.Parts.{Branch_of, Body_of, State_of, Surroundings, Block, Plain, Switch, Reset, Automaton, Transition, Placed, parts, parts_of, block_parts, block_sets, equation_case, branch_case, state_case, state_parts, strong_of_all, transitions}
use Rattle.hept_ast.specs.InnerParts.{state_names}
use Rattle.hept_ast.specs.Clocks.{own_names}
use Rattle.hept_ast.specs.Meaning.{clock_in, clock_seen}
use Rattle.hept_ast.specs.declared.name.Place.{Place}
use Rattle.hept_ast.specs.declared.tree.Block as tree
use Rattle.hept_ast.specs.declared.tree.Branch.{Branch}
use Rattle.hept_ast.specs.declared.tree.State.{State}
use Rattle.hept_ast.specs.declared.tree.Escape.{Escape}
use Rattle.hept_ast.specs.declared.tree.Node.{Node}
use Rattle.hept_ast.specs.declared.tree.Equation.{Equation, out-Equation, roll-Equation}
use Rattle.hept_ast.specs.declared.tree.Equation.TheOpen.{Equation-F}
use Rattle.hept_ast.specs.declared.tree.Equation.TheViews.{roll-out-Equation}
use Rattle.hept_ast.specs.declared.tree.Equation.TheVariants as equation
use Rattle.hept_ast.proofs.PartsOf.{parts-Define, parts-Switch, parts-Reset, parts-Automaton}
use Rattle.sound_expressions.specs.Sound.{Within}
use Rattle.accepted_meaning.specs.SoundNodes.{SoundPart}
use Rattle.accepted_meaning.specs.Placing.{IsPlaced, at_top, at_call, at_branch, at_reset, at_state, site_of}
use Rattle.accepted_meaning.specs.Running.{Run, StandsIn, setting_of, text_run}
use Rattle.accepted_meaning.specs.Structure.{IsEquationOf, defined_in, PartsOfScope, BlockOfScope, SoundDefine, SoundSwitchOf, SoundResetOf, SoundAutomatonOf, SoundWeakOf, SoundStrongOf, BranchOutside, BodyOutside, StateOutside, ClockOfSeen, ClockInText, ClockHere}
use Rattle.accepted_meaning.proofs.TextLists.{contains_here, contains_flat, contains_map, contains_got, is_in_append, names_append}
use Rattle.accepted_meaning.proofs.FitsScopes.{written_is}

-- ---- the parts of an equation, by its view

abbrev pub parts_view : Surroundings → Equation-F Equation tree.Block Branch State → List Placed
parts_view site (Equation-F.Define p left right) = record { site = site; part = Plain p.0 left right } ∷ []
parts_view site (Equation-F.Switch p on branches) = record { site = site; part = Switch p.0 on (map branch_case branches) } ∷ flat_map (λ b. block_parts (Branch_of on b.block.locals ∷ site) b.block) branches
parts_view site (Equation-F.Reset p block every) = record { site = site; part = Reset p.0 every (block_sets block) } ∷ block_parts (Body_of every block.locals ∷ site) block
parts_view site (Equation-F.Automaton p states) =
    record { site = site; part = Automaton p.0 (map state_case states) } ∷ flat_map (state_parts site (strong_of_all states) (map (λ c. c.label) (map state_case states))) states

rolled_parts : (site : Surroundings) (v : Equation-F Equation tree.Block Branch State) → parts_of site (roll-Equation v) ≡ parts_view site v
rolled_parts site (Equation-F.Define p left right) = ap (parts_of site) (equation.rolls-Define p left right) ∙ parts-Define site p left right
rolled_parts site (Equation-F.Switch p on branches) = ap (parts_of site) (equation.rolls-Switch p on branches) ∙ parts-Switch site p on branches
rolled_parts site (Equation-F.Reset p block every) = ap (parts_of site) (equation.rolls-Reset p block every) ∙ parts-Reset site p block every
rolled_parts site (Equation-F.Automaton p states) = ap (parts_of site) (equation.rolls-Automaton p states) ∙ parts-Automaton site p states

pub parts_are : (site : Surroundings) (e : Equation) (v : Equation-F Equation tree.Block Branch State) → out-Equation e ≡ v → parts_of site e ≡ parts_view site v
parts_are site e v is = ap (parts_of site) (sym (roll-out-Equation e)) ∙ rolled_parts site (out-Equation e) ∙ ap (parts_view site) is

in_view : (site : Surroundings) (e : Equation) (v : Equation-F Equation tree.Block Branch State) (q : Placed) → out-Equation e ≡ v → Contains (parts_view site v) q → Contains (parts_of site e) q
in_view site e v q is h = subst (λ (qs : List Placed). Contains qs q) (sym (parts_are site e v is)) h

-- ---- the parts of a scope's block

abbrev block_part : Scope → Placed
block_part s = record { site = site_of s; part = Block (defined_in s) (map equation_case (block_of s).body) }

abbrev inner : Scope → List Placed
inner s = flat_map (parts_of (site_of s)) (block_of s).body

after : (q p : Placed) (qs : List Placed) → Contains qs p → Contains (q ∷ qs) p
after q p qs h = Contains-append_right (q ∷ []) qs p h

equation_parts : (s : Scope) (e : Equation) (q : Placed) → Contains (block_of s).body e → Contains (parts_of (site_of s) e) q → Contains (block_part s ∷ inner s) q
equation_parts s e q h k = after (block_part s) q (inner s) (contains_flat (parts_of (site_of s)) (block_of s).body e q h k)

state_inside : (site : Surroundings) (states : List State) (x : State) (q : Placed) → Contains states x →
    Contains (state_parts site (strong_of_all states) (map (λ c. c.label) (map state_case states)) x) q → (p : Place) → Contains (parts_view site (Equation-F.Automaton p states)) q
state_inside site states x q h k p = after _ q _ (contains_flat (state_parts site (strong_of_all states) (map (λ c. c.label) (map state_case states))) states x q h k)

scope_in : (r : Run) (s : Scope) (n : ℕ) (node : Node) → IsPlaced r.program (setting_of r) (text_run r) s → text_of s ≡ Written n node → (q : Placed) → Contains (block_part s ∷ inner s) q → Contains (parts node) q
scope_in r s n node at_top is q h = subst (λ (y : Node). Contains (parts y) q) (written_is r.number n r.node node is) h
scope_in r s n node (at_call {m = m} {callee = callee} placed text node_sound sound call) is q h = subst (λ (y : Node). Contains (parts y) q) (written_is m n callee node is) h
scope_in r s n node (at_branch {s = outer} {e = e} {p = p} {on = on} {branches = branches} {b = b} placed inside view among) is q h =
    scope_in r outer n node placed is q (equation_parts outer e q inside (in_view (site_of outer) e (Equation-F.Switch p on branches) q view
    (after _ q _ (contains_flat (λ (x : Branch). block_parts (Branch_of on x.block.locals ∷ site_of outer) x.block) branches b q among h))))
scope_in r s n node (at_reset {s = outer} {e = e} {p = p} {block = block} {every = every} placed inside view) is q h =
    scope_in r outer n node placed is q (equation_parts outer e q inside (in_view (site_of outer) e (Equation-F.Reset p block every) q view
    (after _ q (block_part (In_body outer every block) ∷ inner (In_body outer every block)) h)))
scope_in r s n node (at_state {s = outer} {e = e} {p = p} {states = states} {k = j} {q = x} placed inside view at) is q h =
    let site : Surroundings = State_of (strong_of_all states) x.block.locals ∷ site_of outer in
    let of_state : Contains (block_parts site x.block) q = subst (λ (y : tree.Block). Contains (block_parts (State_of (strong_of_all states) y.locals ∷ site_of outer) y) q) (ap block_or_none at) h in
    let names' : List Name = map (λ c. c.label) (map state_case states) in
    scope_in r outer n node placed is q (equation_parts outer e q inside (in_view (site_of outer) e (Equation-F.Automaton p states) q view
    (state_inside (site_of outer) states x q (contains_got states j x at)
    (Contains-append_left (block_parts site x.block ++ transitions site false names' x.weak) (transitions (site_of outer) true names' x.strong) q
    (Contains-append_left (block_parts site x.block) (transitions site false names' x.weak) q of_state)) p)))

part_in : (r : Run) (k : Within) (s : Scope) → StandsIn r k s → (q : Placed) → Contains (block_part s ∷ inner s) q → Contains (parts k.node) q
part_in r k s stands q h = scope_in r s stands.number k.node stands.placed stands.text q h

pub parts_of_scope : (r : Run) → PartsOfScope r
parts_of_scope r k s e q h i = part_in r k s h.stands q (equation_parts s e q h.in_block i)

pub block_of_scope : (r : Run) → BlockOfScope r
block_of_scope r k s stands = part_in r k s stands (block_part s) (contains_here (block_part s) (inner s))

-- ---- what is known of an equation

sound_view : (r : Run) (k : Within) (s : Scope) (e : Equation) (v : Equation-F Equation tree.Block Branch State) (q : Placed) → IsEquationOf r k s e → out-Equation e ≡ v → Contains (parts_view (site_of s) v) q →
    SoundPart k q.site q.part
sound_view r k s e v q h is i = h.stands.of_node.sound_node.sound_parts q (parts_of_scope r k s e q h (in_view (site_of s) e v q is i))

pub sound_define : (r : Run) → SoundDefine r
sound_define r k s e p left right h is = sound_view r k s e (Equation-F.Define p left right) _ h is (contains_here _ [])

pub sound_switch : (r : Run) → SoundSwitchOf r
sound_switch r k s e p on branches h is = sound_view r k s e (Equation-F.Switch p on branches) _ h is (contains_here _ _)

pub sound_reset : (r : Run) → SoundResetOf r
sound_reset r k s e p block every h is = sound_view r k s e (Equation-F.Reset p block every) _ h is (contains_here _ (block_parts (Body_of every block.locals ∷ site_of s) block))

pub sound_automaton : (r : Run) → SoundAutomatonOf r
sound_automaton r k s e p states h is = sound_view r k s e (Equation-F.Automaton p states) _ h is (contains_here _ _)

transition_in : (site : Surroundings) (strong : Bool) (states : List Name) (es : List Escape) (e : Escape) → Contains es e → Contains (transitions site strong states es) (record { site = site; part = Transition strong states e })
transition_in site strong states es e h = contains_map (λ (x : Escape). record { site = site; part = Transition strong states x }) es e h

pub sound_weak : (r : Run) → SoundWeakOf r
sound_weak r k s e p states j q go h is at i =
    let site : Surroundings = State_of (strong_of_all states) q.block.locals ∷ site_of s in
    let part : Placed = record { site = site; part = Transition false (state_names states) go } in
    subst (λ (y : tree.Block). SoundPart k (State_of (strong_of_all states) y.locals ∷ site_of s) (Transition false (state_names states) go)) (sym (ap block_or_none at))
    (sound_view r k s e (Equation-F.Automaton p states) part h is (state_inside (site_of s) states q part (contains_got states j q at)
    (Contains-append_left (block_parts site q.block ++ transitions site false (state_names states) q.weak) (transitions (site_of s) true (state_names states) q.strong) part
    (Contains-append_right (block_parts site q.block) (transitions site false (state_names states) q.weak) part (transition_in site false (state_names states) q.weak go i))) p))

pub sound_strong : (r : Run) → SoundStrongOf r
sound_strong r k s e p states j q go h is at i =
    let site : Surroundings = State_of (strong_of_all states) q.block.locals ∷ site_of s in
    let part : Placed = record { site = site_of s; part = Transition true (state_names states) go } in
    sound_view r k s e (Equation-F.Automaton p states) part h is (state_inside (site_of s) states q part (contains_got states j q at)
    (Contains-append_right (block_parts site q.block ++ transitions site false (state_names states) q.weak) (transitions (site_of s) true (state_names states) q.strong) part
    (transition_in (site_of s) true (state_names states) q.strong go i)) p)

-- ---- the scopes around one

stands_around : (r : Run) (k : Within) (s i : Scope) → StandsIn r k i → text_of i ≡ text_of s → IsPlaced r.program (setting_of r) (text_run r) s → StandsIn r k s
stands_around r k s i stands same placed = record { number = stands.number; of_node = stands.of_node; text = sym same ∙ stands.text; placed = placed }

pub branch_outside : (r : Run) → BranchOutside r
branch_outside r k s on b stands = by_place stands.placed
  where
    by_place : IsPlaced r.program (setting_of r) (text_run r) (In_branch s on b) →
        (e : Equation) × (p : Place) × (branches : List Branch) × IsEquationOf r k s e × (out-Equation e ≡ Equation-F.Switch p on branches) × Contains branches b
    by_place (at_branch {e = e} {p = p} {branches = branches} placed inside view among) =
        (e, p, branches, record { stands = stands_around r k s (In_branch s on b) stands refl placed; in_block = inside }, view, among)

pub body_outside : (r : Run) → BodyOutside r
body_outside r k s every block stands = by_place stands.placed
  where
    by_place : IsPlaced r.program (setting_of r) (text_run r) (In_body s every block) → (e : Equation) × (p : Place) × IsEquationOf r k s e × (out-Equation e ≡ Equation-F.Reset p block every)
    by_place (at_reset {e = e} {p = p} placed inside view) = (e, p, record { stands = stands_around r k s (In_body s every block) stands refl placed; in_block = inside }, view)

pub state_outside : (r : Run) → StateOutside r
state_outside r k s states j stands = by_place stands.placed
  where
    by_place : IsPlaced r.program (setting_of r) (text_run r) (In_state s states j) →
        (e : Equation) × (p : Place) × (q : State) × IsEquationOf r k s e × (out-Equation e ≡ Equation-F.Automaton p states) × (slice_get states j ≡ Some q)
    by_place (at_state {e = e} {p = p} {q = q} placed inside view at) = (e, p, q, record { stands = stands_around r k s (In_state s states j) stands refl placed; in_block = inside }, view, at)

-- ---- clocks of what is seen

pub clock_of_seen : ClockOfSeen
clock_of_seen k site x d c sees = by_outer (is_in x (own_names k.node site)) refl sees.outer ∙ sees.here
  where
    by_outer : (b : Bool) → is_in x (own_names k.node site) ≡ b → (is_in x (own_names k.node site) ≡ true) ⊎ (k.clock x ≡ []) → k.clock x ≡ (if is_in x (own_names k.node site) then k.clock x else [])
    by_outer b e (inl h) = ap (λ (y : Bool). if y then k.clock x else []) (sym h)
    by_outer true e (inr h) = ap (λ (y : Bool). if y then k.clock x else []) (sym e)
    by_outer false e (inr h) = h ∙ ap (λ (y : Bool). if y then k.clock x else []) (sym e)

pub clock_in_text : (r : Run) → ClockInText r
clock_in_text r k s x stands = ap (λ (y : Text). clock_in (setting_of r) y x) stands.text ∙ ap (λ (y : Within). y.clock x) (sym stands.of_node.is)

turned : (a b c : Bool) → ((a || b) || c) ≡ ((c || b) || a)
turned true true true = refl
turned true true false = refl
turned true false true = refl
turned true false false = refl
turned false true true = refl
turned false true false = refl
turned false false true = refl
turned false false false = refl

pub own_of_node : (n : ℕ) (node : Node) (x : Name) → is_in x (names (node_decls (Written n node))) ≡ is_in x (own_names node [])
own_of_node n node x =
    ap (is_in x) (names_append (node.inputs ++ node.outputs) node.block.locals ∙ ap (λ (ys : List Name). ys ++ names node.block.locals) (names_append node.inputs node.outputs))
    ∙ is_in_append x (names node.inputs ++ names node.outputs) (names node.block.locals) ∙ ap (λ (b : Bool). b || is_in x (names node.block.locals)) (is_in_append x (names node.inputs) (names node.outputs))
    ∙ turned (is_in x (names node.inputs)) (is_in x (names node.outputs)) (is_in x (names node.block.locals))
    ∙ sym (is_in_append x (names node.block.locals ++ names node.outputs) (names node.inputs) ∙ ap (λ (b : Bool). b || is_in x (names node.inputs)) (is_in_append x (names node.block.locals) (names node.outputs)))

either : (a b : Bool) (c : Clock) → (if a then c else (if b then c else [])) ≡ (if a || b then c else [])
either true b c = refl
either false b c = refl

not_under : (r : Run) (s : Scope) (resets : List Name) → IsPlaced r.program (setting_of r) (text_run r) (Under s resets) → ⊥
not_under r s resets h = elim h [ ]

in_text : (r : Run) (k : Within) (s : Scope) (x : Name) (b c : Bool) → StandsIn r k s → b ≡ c → (if b then clock_in (setting_of r) (text_of s) x else []) ≡ (if c then k.clock x else [])
in_text r k s x b c stands e = ap (λ (y : Clock). if b then y else []) (clock_in_text r k s x stands) ∙ ap (λ (y : Bool). if y then k.clock x else []) e

-- the clock of what a scope sees, by what it declares itself
seen_clock : (r : Run) (k : Within) (x : Name) (s : Scope) → StandsIn r k s → clock_seen (setting_of r) x s ≡ (if is_in x (own_names k.node (site_of s)) then k.clock x else [])
seen_clock r k x (Top text) stands = in_text r k (Top text) x (declares (Top text) x) (is_in x (own_names k.node [])) stands
    (ap (λ (y : Text). is_in x (names (node_decls y))) stands.text ∙ own_of_node stands.number k.node x)
seen_clock r k x (Called s c place args text) stands = in_text r k (Called s c place args text) x (declares (Called s c place args text) x) (is_in x (own_names k.node [])) stands
    (ap (λ (y : Text). is_in x (names (node_decls y))) stands.text ∙ own_of_node stands.number k.node x)
seen_clock r k x (In_branch s on b) stands = in_text r k (In_branch s on b) x (is_in x (names b.block.locals)) (is_in x (names b.block.locals)) stands refl
seen_clock r k x (In_state s states j) stands = in_text r k (In_state s states j) x (is_in x (names (state_block states j).locals)) (is_in x (names (state_block states j).locals)) stands refl
seen_clock r k x (In_body s every block) stands =
    let outer : StandsIn r k s = (body_outside r k s every block stands).2.stands in
    ap (λ (y : Clock). if is_in x (names block.locals) then y else clock_seen (setting_of r) x s) (clock_in_text r k s x outer)
    ∙ ap (λ (y : Clock). if is_in x (names block.locals) then k.clock x else y) (seen_clock r k x s outer)
    ∙ either (is_in x (names block.locals)) (is_in x (own_names k.node (site_of s))) (k.clock x)
    ∙ ap (λ (b : Bool). if b then k.clock x else []) (sym (is_in_append x (names block.locals) (own_names k.node (site_of s))))
seen_clock r k x (Under s resets) stands = absurd (not_under r s resets stands.placed)

pub clock_here : (r : Run) → ClockHere r
clock_here r k s x d c stands sees = seen_clock r k x s stands ∙ sees.here
