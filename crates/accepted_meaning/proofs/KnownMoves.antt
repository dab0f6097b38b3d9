-- A variable gives in an active scope what it gives in the body of the node.
use Rattle.std.proofs.Common.{◌≡◌, ◌⊎◌, inl, inr, ℕ, Bool, true, false, ◌||◌, List, [], ◌∷◌, map, Option, Some, refl, sym, ap, subst, ◌∙◌}
use Rattle.std.specs.Prelude.{if◌then◌else◌, ◌==◌, Contains}
use Rattle.std.specs.List.{list_any}
use Rattle.std.proofs.lemmas.List.Folds.{flat_map-map}
use Rattle.std.proofs.lemmas.Bool.Decides.{Decides-eqb}
use Rattle.std.proofs.lemmas.Slice.Eq.{bytes_eq-Decides}
use Rattle.hept_ast.specs.Texts.{Name, is_in, names, branch_of, tag_value}
use Rattle.hept_ast.specs.Scopes.{Clock, Text, Scope, Top, Called, In_branch, In_body, In_state, Under, block_of, state_block, block_or_none}
use Rattle.hept_ast.specs.Parts.{State_of, strong_of_all, Block as Block_part, Case, branch_case, state_case, sets_of, parts_of, block_parts, equation_case}
use Rattle.hept_ast.specs.Types.{same_tag}
use Rattle.hept_ast.specs.Meaning.{Question, Gives, Last, Defined, Defines, Present, Active, Active_state, Answer, Unknown, Absent, Nil, Value, Is, State_at, Rule, Says, Asks, is_true, is_value, is_state, answer_to, test, defined_or_last, branch_rule, equation_rule, block_rule, defined_rule, steps_hold}
use Rattle.hept_ast.specs.Outputs.{said, asked}
use Rattle.hept_ast.specs.declared.name.Place.{Place}
use Rattle.hept_ast.specs.declared.tree.Expr.{Expr}
use Rattle.hept_ast.specs.declared.tree.Decl.{Decl}
use Rattle.hept_ast.specs.declared.tree.Tag.{Tag}
use Rattle.hept_ast.specs.declared.tree.Tag.TheVariants as tag
use Rattle.hept_ast.specs.declared.tree.TypeDec.{TypeDec}
use Rattle.hept_ast.specs.declared.tree.Block.{Block}
use Rattle.hept_ast.specs.declared.tree.Branch.{Branch}
use Rattle.hept_ast.specs.declared.tree.State.{State}
use Rattle.hept_ast.specs.declared.tree.Equation.{Equation, out-Equation}
use Rattle.hept_ast.specs.declared.tree.Equation.TheOpen.{Equation-F}
use Rattle.hept_ast.proofs.Depths.{by_rule}
use Rattle.sound_expressions.specs.Sound.{Within, IsTagOf}
use Rattle.accepted_meaning.specs.SoundNodes.{SoundSwitch, all_sets}
use Rattle.sound_expressions.specs.Demands.{NoTagTwice}
use Rattle.accepted_meaning.specs.Placing.{site_of}
use Rattle.accepted_meaning.specs.Running.{Run, StandsIn, IsSoundRun, IsKnown, setting_of, types_in}
use Rattle.accepted_meaning.specs.Structure.{HasPart, defined_in, IsEquationOf}
use Rattle.accepted_meaning.proofs.KnownTrees.{or_first, or_second, contains_cases, contains_first, contains_more, none_contained, contains_map, never}
use Rattle.accepted_meaning.proofs.KnownScopes.{IsOn, Texts, IsAround, itself, around_branch, around_body, around_state, around_right, IsFrame, a_top, a_call, not_placed}
use Rattle.accepted_meaning.proofs.KnownTexts.{Descends, descend, descends, sets_define, sets_switch, sets_reset, sets_automaton, contains_at, inner_blocks}
use Rattle.accepted_meaning.proofs.KnownReads.{flat_in, map_in, in_outside, contains_flat, part_in_block, part_in_branch, part_in_body, part_in_state}
use Rattle.accepted_meaning.proofs.KnownSame.{Comes, Same, Alike, same_itself, same_trans, alike_itself, alike_trans, same_ask, alike_answer, known_of}
use Rattle.accepted_meaning.proofs.KnownInside.{Inside, set_here, set_within, Whether, WhetherSome, whether, whether_some, declared_more, declared_at, only_one_sets}
use Rattle.accepted_meaning.proofs.TextLists.{declared_is_in, declared_name}
use Rattle.accepted_meaning.proofs.TextApart.{declared_by, inner, inside, scope_apart}
use Rattle.accepted_meaning.proofs.StaticValues.{tags_differ}

-- ---- active scopes

said_answer : (r : Run) (a b : Answer) → Comes r (Says a) b → a ≡ b
said_answer r a _ said = refl

chosen_true : (r : Run) (b : Bool) (d : Rule) (a c : Answer) → Comes r (if b then d else Says a) c → (a ≡ c → ⊥) → b ≡ true
chosen_true r true d a c f h = refl
chosen_true r false d a c f h = absurd (h (said_answer r a c f))

-- what was asked first, where the rest says something else
asked_on : (r : Run) (q : Question) (d : Rule) (a c : Answer) → Comes r (test q (λ here. if here then d else Says a)) c → (a ≡ c → ⊥) → (b : Answer) × IsKnown r q b × (is_true b ≡ true)
asked_on r q d a c (asked {a = b} k f) h = (b, k, chosen_true r (is_true b) d a c f h)

false_is : (a : Answer) → is_true a ≡ true → Is false ≡ a → ⊥
false_is a h e = absurd (no_truth (ap is_true e ∙ h))
  where
    no_truth : false ≡ true → ⊥
    no_truth h = cc

pub present_on : (r : Run) (c : Clock) (s : Scope) (t : ℕ) (a : Answer) → IsKnown r (Present c s t) a → is_true a ≡ true → IsOn r s t
present_on r c s t a k h = let o = asked_on r (Active s t) (steps_hold (setting_of r) c s t) (Is false) a (by_rule (setting_of r) r.rows (Present c s t) a k) (false_is a h) in record { answer = o.0; known = o.1; true_is = o.2 }

gives_on : (r : Run) (e : Expr) (c : Clock) (s : Scope) (t : ℕ) (v : ℕ) → IsKnown r (Gives e c s t) (Value v) → IsOn r s t
gives_on r e c s t v k =
    let o = asked_on r (Present c s t) _ Absent (Value v) (by_rule (setting_of r) r.rows (Gives e c s t) (Value v) k) no_value in present_on r c s t o.0 o.1 o.2
  where
    no_value : Absent ≡ Value v → ⊥
    no_value h = cc

-- the value that a branch is active by
record HasTag (r : Run) (s : Scope) (on : Expr) (b : Branch) (t : ℕ) : Type 0 where
  value : ℕ
  known : IsKnown r (Gives on [] s t) (Value value)
  is_tag : value ≡ tag_value (types_in r) b.tag

value_tag : (r : Run) (s : Scope) (on : Expr) (b : Branch) (t : ℕ) (a : Answer) → IsKnown r (Gives on [] s t) a → is_value (tag_value (types_in r) b.tag) a ≡ true → HasTag r s on b t
value_tag r s on b t (Value v) k h = record { value = v; known = k; is_tag = (Decides-eqb _ _).0 h }
value_tag r s on b t Unknown k h = absurd (no_truth h)
  where
    no_truth : false ≡ true → ⊥
    no_truth h = cc
value_tag r s on b t Absent k h = absurd (no_truth h)
  where
    no_truth : false ≡ true → ⊥
    no_truth h = cc
value_tag r s on b t Nil k h = absurd (no_truth h)
  where
    no_truth : false ≡ true → ⊥
    no_truth h = cc
value_tag r s on b t (Is c) k h = absurd (no_truth h)
  where
    no_truth : false ≡ true → ⊥
    no_truth h = cc
value_tag r s on b t (State_at j m) k h = absurd (no_truth h)
  where
    no_truth : false ≡ true → ⊥
    no_truth h = cc

branch_tag : (r : Run) (s : Scope) (on : Expr) (b : Branch) (t : ℕ) → IsOn r (In_branch s on b) t → HasTag r s on b t
branch_tag r s on b t o = go o.answer (by_rule (setting_of r) r.rows (Active (In_branch s on b) t) o.answer o.known) o.true_is
  where
    go : (c : Answer) → Comes r (Asks (Gives on [] s t) (λ a. Says (Is (is_value (tag_value (types_in r) b.tag) a)))) c → is_true c ≡ true → HasTag r s on b t
    go c (asked {a = a} k f) h = value_tag r s on b t a k (ap is_true (said_answer r (Is (is_value (tag_value (types_in r) b.tag) a)) c f) ∙ h)

pub branch_around : (r : Run) (s : Scope) (on : Expr) (b : Branch) (t : ℕ) → IsOn r (In_branch s on b) t → IsOn r s t
branch_around r s on b t o = let h = branch_tag r s on b t o in gives_on r on [] s t h.value h.known

pub body_around : (r : Run) (s : Scope) (every : Expr) (block : Block) (t : ℕ) → IsOn r (In_body s every block) t → IsOn r s t
body_around r s every block t o = record { answer = o.answer; known = known_of r (Active s t) o.answer (by_rule (setting_of r) r.rows (Active (In_body s every block) t) o.answer o.known); true_is = o.true_is }

-- the state that a scope is active by
record HasState (r : Run) (s : Scope) (qs : List State) (j : ℕ) (t : ℕ) : Type 0 where
  mark : Bool
  known : IsKnown r (Active_state s qs t) (State_at j mark)

state_is : (r : Run) (s : Scope) (qs : List State) (j : ℕ) (t : ℕ) (a : Answer) → IsKnown r (Active_state s qs t) a → is_state j a ≡ true → HasState r s qs j t
state_is r s qs j t (State_at i m) k h = record { mark = m; known = subst (λ (n : ℕ). IsKnown r (Active_state s qs t) (State_at n m)) ((Decides-eqb i j).0 h) k }
state_is r s qs j t Unknown k h = absurd (no_truth h)
  where
    no_truth : false ≡ true → ⊥
    no_truth h = cc
state_is r s qs j t Absent k h = absurd (no_truth h)
  where
    no_truth : false ≡ true → ⊥
    no_truth h = cc
state_is r s qs j t Nil k h = absurd (no_truth h)
  where
    no_truth : false ≡ true → ⊥
    no_truth h = cc
state_is r s qs j t (Value v) k h = absurd (no_truth h)
  where
    no_truth : false ≡ true → ⊥
    no_truth h = cc
state_is r s qs j t (Is c) k h = absurd (no_truth h)
  where
    no_truth : false ≡ true → ⊥
    no_truth h = cc

state_known : (r : Run) (s : Scope) (qs : List State) (j : ℕ) (t : ℕ) → IsOn r (In_state s qs j) t → HasState r s qs j t
state_known r s qs j t o = go o.answer (by_rule (setting_of r) r.rows (Active (In_state s qs j) t) o.answer o.known) o.true_is
  where
    go : (c : Answer) → Comes r (Asks (Active_state s qs t) (λ a. Says (Is (is_state j a)))) c → is_true c ≡ true → HasState r s qs j t
    go c (asked {a = a} k f) h = state_is r s qs j t a k (ap is_true (said_answer r (Is (is_state j a)) c f) ∙ h)

pub state_around : (r : Run) (s : Scope) (qs : List State) (j : ℕ) (t : ℕ) → IsOn r (In_state s qs j) t → IsOn r s t
state_around r s qs j t o =
    let h = state_known r s qs j t o in
    let p = asked_on r (Active s t) _ Absent (State_at j h.mark) (by_rule (setting_of r) r.rows (Active_state s qs t) (State_at j h.mark) h.known) (no_state h.mark) in
    record { answer = p.0; known = p.1; true_is = p.2 }
  where
    no_state : (m : Bool) → Absent ≡ State_at j m → ⊥
    no_state m h = cc

-- ---- from a block to one inside it

-- a name that a scope's block sets and declares, itself or in a block inside it
pub record Owned (r : Run) (z : Name) (u : Scope) : Type 0 where
  pub equation : Equation
  pub in_block : Contains (block_of u).body equation
  pub set : Inside z equation
  pub declared : is_in z (declared_by (block_parts (site_of u) (block_of u))) ≡ true

-- the equation that sets a name is the one that is followed
block_same : (r : Run) (z : Name) (s : Scope) (t : ℕ) (e : Equation) → Inside z e → (es : List Equation) → Contains es e → ((y : Equation) → Contains es y → Inside z y → y ≡ e) →
    Same r (block_rule (setting_of r) es z s t) (equation_rule (setting_of r) (out-Equation e) z s t)
block_same r z s t e set [] i only = absurd (none_contained e i)
block_same r z s t e set (y ∷ es) i only =
    let w : Whether r z y = whether r z y in
    same_trans (same_ask r (Defines z y) (λ a. if is_true a then equation_rule (setting_of r) (out-Equation y) z s t else block_rule (setting_of r) es z s t) (Is w.bit) w.known)
    (branch w.bit refl (contains_cases y es e i) w (λ j. block_same r z s t e set es j (λ x k. only x (contains_more y es x k))))
  where
    branch : (b : Bool) → b ≡ b → (y ≡ e) ⊎ Contains es e → (w : Whether r z y) → (Contains es e → Same r (block_rule (setting_of r) es z s t) (equation_rule (setting_of r) (out-Equation e) z s t)) →
        Same r (if w.bit then equation_rule (setting_of r) (out-Equation y) z s t else block_rule (setting_of r) es z s t) (equation_rule (setting_of r) (out-Equation e) z s t)
    branch b q c w next = choose w.bit refl w.to w.from c next
      where
        choose : (b : Bool) → b ≡ b → (b ≡ true → Inside z y) → (Inside z y → b ≡ true) → (y ≡ e) ⊎ Contains es e → (Contains es e → Same r (block_rule (setting_of r) es z s t) (equation_rule (setting_of r) (out-Equation e) z s t)) →
            Same r (if b then equation_rule (setting_of r) (out-Equation y) z s t else block_rule (setting_of r) es z s t) (equation_rule (setting_of r) (out-Equation e) z s t)
        choose true q to from c next = subst (λ (x : Equation). Same r (equation_rule (setting_of r) (out-Equation x) z s t) (equation_rule (setting_of r) (out-Equation e) z s t)) (sym (only y (contains_first y y es refl) (to refl))) same_itself
        choose false q to from (inl g) next = never false (from (subst (λ (x : Equation). Inside z x) (sym g) set)) refl
        choose false q to from (inr j) next = next j

-- the definition in a block that sets the name
inner_same : (r : Run) (z : Name) (inner outer : Scope) (t : ℕ) → Owned r z inner → Same r (defined_or_last (setting_of r) (block_of inner) z inner outer t) (answer_to (Defined z inner t))
inner_same r z inner outer t o =
    let n : WhetherSome r z (block_of inner).body = whether_some r z (block_of inner).body (λ y i. whether r z y) in
    let yes : n.bit ≡ true = n.from (record { equation = o.equation; among = o.in_block; set = o.set }) in
    same_trans (n.same (λ b. if b then answer_to (Defined z inner t) else answer_to (Last z outer t)))
    (subst (λ (b : Bool). Same r (if b then answer_to (Defined z inner t) else answer_to (Last z outer t)) (answer_to (Defined z inner t))) (sym yes) same_itself)

-- from the rule of the outer definition
outer_same : (r : Run) → Texts r → (k : Within) (z : Name) (s u : Scope) (t : ℕ) (e : Equation) → IsEquationOf r k s e → Inside z e → is_in z (declared_by (parts_of (site_of s) e)) ≡ true →
    Same r (equation_rule (setting_of r) (out-Equation e) z s t) (answer_to (Defined z u t)) → Alike r (Defined z s t) (Defined z u t)
outer_same r texts k z s u t e h set declared same =
    alike_answer r (Defined z s t) (Defined z u t)
    (subst (λ (x : Text). Same r (defined_rule (setting_of r) x z s t) (answer_to (Defined z u t))) (sym h.stands.text)
    (same_trans (block_same r z s t e set (block_of s).body h.in_block (only_one_sets r texts k s (scope_apart r k s h.stands) z e h declared)) same))

owned_out : (r : Run) (z : Name) (s : Scope) (e : Equation) → Contains (block_of s).body e → Inside z e → is_in z (declared_by (parts_of (site_of s) e)) ≡ true → Owned r z s
owned_out r z s e i set declared = record {
  equation = e;
  in_block = i;
  set = set;
  declared = declared_more z (parts_of (site_of s) e) (block_parts (site_of s) (block_of s)) (λ q j. part_in_block (site_of s) (block_of s) e q i j) declared;
}

inside_out : (z : Name) (s : Scope) (e : Equation) → Contains (block_of s).body e → is_in z (declared_by (parts_of (site_of s) e)) ≡ true → is_in z (inside s) ≡ true
inside_out z s e i declared = declared_more z (parts_of (site_of s) e) (inner s) (λ q j. contains_flat (parts_of (site_of s)) (block_of s).body e q i j) declared

abbrev pub IsInner : Scope → Type 0
IsInner (Top text) = ⊥
IsInner (Called s clock place args text) = ⊥
IsInner _ = Unit {0}

at_the_frame : (z : Name) (f : Scope) → IsFrame f → IsInner f ⊎ (is_in z (inside f) ≡ true) → is_in z (inside f) ≡ true
at_the_frame z _ a_top (inl h) = absurd h
at_the_frame z _ a_call (inl h) = absurd h
at_the_frame z f frame (inr h) = h

-- ---- the branch of a tag

same_tag_itself : (a : Tag) → same_tag a a ≡ true
same_tag_itself (tag.Truth true) = refl
same_tag_itself (tag.Truth false) = refl
same_tag_itself (tag.Constructor x) = (bytes_eq-Decides x x).1 refl

among_tags : (a : Tag) (bs : List Branch) (b : Branch) → Contains bs b → a ≡ b.tag → list_any (same_tag a) (map (λ c. c.label) (map branch_case bs)) ≡ true
among_tags a [] b i e = absurd (none_contained b i)
among_tags a (x ∷ bs) b i e = split (contains_cases x bs b i) (λ j. among_tags a bs b j e)
  where
    split : (x ≡ b) ⊎ Contains bs b → (Contains bs b → list_any (same_tag a) (map (λ c. c.label) (map branch_case bs)) ≡ true) → (same_tag a x.tag || list_any (same_tag a) (map (λ c. c.label) (map branch_case bs))) ≡ true
    split (inl g) next = or_first _ _ (subst (λ (y : Tag). same_tag a y ≡ true) (e ∙ sym (ap (λ (y : Branch). y.tag) g)) (same_tag_itself a))
    split (inr j) next = or_second _ _ (next j)

find_branch : (types : List TypeDec) (bs : List Branch) (b : Branch) (v : ℕ) → NoTagTwice (map (λ c. c.label) (map branch_case bs)) → ((x : Branch) → Contains bs x → tag_value types x.tag ≡ v → x.tag ≡ b.tag) →
    Contains bs b → tag_value types b.tag ≡ v → branch_of types v bs ≡ Some b
find_branch types [] b v once only i e = absurd (none_contained b i)
find_branch types (x ∷ bs) b v once only i e =
    choose (tag_value types x.tag == v) refl (contains_cases x bs b i) (λ j. find_branch types bs b v once.1 (λ y k. only y (contains_more x bs y k)) j e)
  where
    choose : (c : Bool) → (tag_value types x.tag == v) ≡ c → (x ≡ b) ⊎ Contains bs b → (Contains bs b → branch_of types v bs ≡ Some b) → (if c then Some x else branch_of types v bs) ≡ Some b
    choose true g (inl k) next = ap (λ (y : Branch). Some y) k
    choose true g (inr j) next =
        never (list_any (same_tag x.tag) (map (λ c. c.label) (map branch_case bs))) (among_tags x.tag bs b j (only x (contains_first x x bs refl) ((Decides-eqb _ _).0 g))) once.0
    choose false g (inl k) next = never (tag_value types x.tag == v) ((Decides-eqb _ _).1 (ap (λ (y : Branch). tag_value types y.tag) k ∙ e)) g
    choose false g (inr j) next = next j

-- ---- one step of the way

module _ (r : Run) (sound : IsSoundRun r) (texts : Texts r) (k : Within) (z : Name) (t : ℕ) where
  branch_same : (s : Scope) (e : Equation) (p : Place) (on : Expr) (bs : List Branch) (b : Branch) → IsEquationOf r k s e → out-Equation e ≡ Equation-F.Switch p on bs → Contains bs b → IsOn r (In_branch s on b) t → Owned r z (In_branch s on b) →
      Same r (equation_rule (setting_of r) (Equation-F.Switch p on bs) z s t) (answer_to (Defined z (In_branch s on b) t))
  branch_same s e p on bs b h eq i o own =
      let g : HasTag r s on b t = branch_tag r s on b t o in
      let part : SoundSwitch k (site_of s) on (map branch_case bs) = texts.sound_switch k s e p on bs h eq in
      let same_types : k.types ≡ types_in r = ap (λ (x : Within). x.types) h.stands.of_node.is in
      let tagged : (x : Branch) → Contains bs x → IsTagOf (types_in r) x.tag part.type = λ x j. subst (λ (types : List TypeDec). IsTagOf types x.tag part.type) same_types (part.tags (branch_case x) (contains_map branch_case bs x j)) in
      let found : branch_of (types_in r) g.value bs ≡ Some b =
      find_branch (types_in r) bs b g.value part.once (λ x j q. tags_differ r.program sound.sound x.tag b.tag part.type (tagged x j) (tagged b i) (q ∙ g.is_tag)) i (sym g.is_tag) in
      same_trans (same_ask r (Gives on [] s t) _ (Value g.value) g.known)
      (subst (λ (x : Option Branch). Same r (branch_rule (setting_of r) x on z s t) (answer_to (Defined z (In_branch s on b) t))) (sym found) (inner_same r z (In_branch s on b) s t own))

  branch_alike : (s : Scope) (on : Expr) (b : Branch) → StandsIn r k (In_branch s on b) → IsOn r (In_branch s on b) t → Owned r z (In_branch s on b) → Alike r (Defined z s t) (Defined z (In_branch s on b) t) × Owned r z s × (is_in z (inside s) ≡ true)
  branch_alike s on b stands o own =
      let out = texts.branch_outside k s on b stands in
      let e : Equation = out.0 in
      let h : IsEquationOf r k s e = out.3 in
      let set : Inside z e = set_within (subst (λ (v : Equation-F Equation Block Branch State). Contains (inner_blocks v) b.block) (sym out.4) (contains_map (λ (x : Branch). x.block) out.2 b out.5)) own.in_block own.set in
      let declared : is_in z (declared_by (parts_of (site_of s) e)) ≡ true =
      declared_more z (block_parts (site_of (In_branch s on b)) b.block) (parts_of (site_of s) e) (λ q j. part_in_branch (site_of s) e out.1 on out.2 b q out.4 out.5 j) own.declared in (
        outer_same r texts k z s (In_branch s on b) t e h set declared
            (subst (λ (v : Equation-F Equation Block Branch State). Same r (equation_rule (setting_of r) v z s t) (answer_to (Defined z (In_branch s on b) t))) (sym out.4) (branch_same s e out.1 on out.2 b h out.4 out.5 o own)),
        owned_out r z s e h.in_block set declared,
        inside_out z s e h.in_block declared,
      )

  body_alike : (s : Scope) (every : Expr) (block : Block) → StandsIn r k (In_body s every block) → Owned r z (In_body s every block) → Alike r (Defined z s t) (Defined z (In_body s every block) t) × Owned r z s × (is_in z (inside s) ≡ true)
  body_alike s every block stands own =
      let out = texts.body_outside k s every block stands in
      let e : Equation = out.0 in
      let h : IsEquationOf r k s e = out.2 in
      let set : Inside z e = set_within (subst (λ (v : Equation-F Equation Block Branch State). Contains (inner_blocks v) block) (sym out.3) (contains_first block block [] refl)) own.in_block own.set in
      let declared : is_in z (declared_by (parts_of (site_of s) e)) ≡ true =
      declared_more z (block_parts (site_of (In_body s every block)) block) (parts_of (site_of s) e) (λ q j. part_in_body (site_of s) e out.1 block every q out.3 j) own.declared in (
        outer_same r texts k z s (In_body s every block) t e h set declared
            (subst (λ (v : Equation-F Equation Block Branch State). Same r (equation_rule (setting_of r) v z s t) (answer_to (Defined z (In_body s every block) t))) (sym out.3) same_itself),
        owned_out r z s e h.in_block set declared,
        inside_out z s e h.in_block declared,
      )

  state_alike : (s : Scope) (qs : List State) (j : ℕ) → StandsIn r k (In_state s qs j) → IsOn r (In_state s qs j) t → Owned r z (In_state s qs j) → Alike r (Defined z s t) (Defined z (In_state s qs j) t) × Owned r z s × (is_in z (inside s) ≡ true)
  state_alike s qs j stands o own =
      let out = texts.state_outside k s qs j stands in
      let e : Equation = out.0 in
      let q : State = out.2 in
      let h : IsEquationOf r k s e = out.3 in
      let is : state_block qs j ≡ q.block = ap block_or_none out.5 in
      let has : Contains qs q = contains_at qs j q out.5 in
      let set : Inside z e = set_within (subst (λ (v : Equation-F Equation Block Branch State). Contains (inner_blocks v) q.block) (sym out.4) (contains_map (λ (x : State). x.block) qs q has))
      (subst (λ (x : Block). Contains x.body own.equation) is own.in_block) own.set in
      let declared : is_in z (declared_by (parts_of (site_of s) e)) ≡ true =
      declared_more z (block_parts (State_of (strong_of_all qs) q.block.locals ∷ site_of s) q.block) (parts_of (site_of s) e) (λ x l. part_in_state (site_of s) e out.1 qs q x out.4 has l)
      (subst (λ (x : Block). is_in z (declared_by (block_parts (State_of (strong_of_all qs) x.locals ∷ site_of s) x)) ≡ true) is own.declared) in
      let g : HasState r s qs j t = state_known r s qs j t o in (
        outer_same r texts k z s (In_state s qs j) t e h set declared
            (subst (λ (v : Equation-F Equation Block Branch State). Same r (equation_rule (setting_of r) v z s t) (answer_to (Defined z (In_state s qs j) t))) (sym out.4)
            (same_trans (same_ask r (Active_state s qs t) _ (State_at j g.mark) g.known) (inner_same r z (In_state s qs j) s t own))),
        owned_out r z s e h.in_block set declared,
        inside_out z s e h.in_block declared,
      )

  -- the definition in the body of the node
  pub defined_moves : (f u : Scope) → IsFrame f → IsAround f u → StandsIn r k u → IsOn r u t → Owned r z u → Alike r (Defined z f t) (Defined z u t) × (IsInner u ⊎ (is_in z (inside u) ≡ true) → is_in z (inside f) ≡ true)
  defined_moves f u frame itself stands o own = (alike_itself, at_the_frame z f frame)
  defined_moves f (In_branch s on b) frame (around_branch i) stands o own =
      let a = branch_alike s on b stands o own in
      let n = defined_moves f s frame i (texts.branch_outside k s on b stands).3.stands (branch_around r s on b t o) a.1 in (alike_trans n.0 a.0, λ h. n.1 (inr a.2))
  defined_moves f (In_body s every block) frame (around_body i) stands o own =
      let a = body_alike s every block stands own in
      let n = defined_moves f s frame i (texts.body_outside k s every block stands).2.stands (body_around r s every block t o) a.1 in (alike_trans n.0 a.0, λ h. n.1 (inr a.2))
  defined_moves f (In_state s qs j) frame (around_state i) stands o own =
      let a = state_alike s qs j stands o own in
      let n = defined_moves f s frame i (texts.state_outside k s qs j stands).3.stands (state_around r s qs j t o) a.1 in (alike_trans n.0 a.0, λ h. n.1 (inr a.2))
  defined_moves f (Under s resets) frame (around_right i) stands o own = absurd (not_placed r s resets stands.placed)

-- ---- where a variable is declared inside

sets_inside_view : (z : Name) (v : Equation-F Equation Block Branch State) (e : Equation) → out-Equation e ≡ v → ((block : Block) (y : Equation) → Contains (inner_blocks v) block → Contains block.body y → is_in z (sets_of y) ≡ true → Inside z y) →
    is_in z (sets_of e) ≡ true → Inside z e
sets_inside_view z (Equation-F.Define p left right) e eq step sets = set_here eq (subst (λ (xs : List Name). is_in z xs ≡ true) (sets_define e p left right eq) sets)
sets_inside_view z (Equation-F.Switch p on bs) e eq step sets =
    let c = flat_in (λ x. x.sets) (map branch_case bs) z (subst (λ (xs : List Name). is_in z xs ≡ true) (sets_switch e p on bs eq) sets) in
    let b = map_in branch_case bs c.element c.among in
    let y = flat_in sets_of b.0.block.body z (in_outside b.0.block.locals z _ (subst (λ (x : Case Tag). is_in z x.sets ≡ true) (sym b.2) c.has)) in
    let i : Contains (map (λ (x : Branch). x.block) bs) b.0.block = contains_map (λ (x : Branch). x.block) bs b.0 b.1 in
    set_within (subst (λ (v : Equation-F Equation Block Branch State). Contains (inner_blocks v) b.0.block) (sym eq) i) y.among (step b.0.block y.element i y.among y.has)
sets_inside_view z (Equation-F.Reset p block every) e eq step sets =
    let y = flat_in sets_of block.body z (in_outside block.locals z _ (subst (λ (xs : List Name). is_in z xs ≡ true) (sets_reset e p block every eq) sets)) in
    let i : Contains (block ∷ []) block = contains_first block block [] refl in
    set_within (subst (λ (v : Equation-F Equation Block Branch State). Contains (inner_blocks v) block) (sym eq) i) y.among (step block y.element i y.among y.has)
sets_inside_view z (Equation-F.Automaton p qs) e eq step sets =
    let c = flat_in (λ x. x.sets) (map state_case qs) z (subst (λ (xs : List Name). is_in z xs ≡ true) (sets_automaton e p qs eq) sets) in
    let b = map_in state_case qs c.element c.among in
    let y = flat_in sets_of b.0.block.body z (in_outside b.0.block.locals z _ (subst (λ (x : Case Name). is_in z x.sets ≡ true) (sym b.2) c.has)) in
    let i : Contains (map (λ (x : State). x.block) qs) b.0.block = contains_map (λ (x : State). x.block) qs b.0 b.1 in
    set_within (subst (λ (v : Equation-F Equation Block Branch State). Contains (inner_blocks v) b.0.block) (sym eq) i) y.among (step b.0.block y.element i y.among y.has)

sets_inside : (z : Name) (e : Equation) → Descends e → is_in z (sets_of e) ≡ true → Inside z e
sets_inside z e (descend g) sets = sets_inside_view z (out-Equation e) e refl (λ block y i j h. sets_inside z y (g block y i j) h) sets

pub owned_at : (r : Run) → Texts r → (k : Within) (z : Name) (h : Scope) → StandsIn r k h → defined_in h ≡ (block_of h).locals → is_in z (names (block_of h).locals) ≡ true → Owned r z h
owned_at r texts k z h stands same declared =
    let locals : List Decl = (block_of h).locals in
    let d = declared_is_in locals z declared in
    let n = declared_name locals z d.0 d.1 in
    let has : HasPart k (site_of h) (Block_part locals (map equation_case (block_of h).body)) =
    subst (λ (ds : List Decl). HasPart k (site_of h) (Block_part ds (map equation_case (block_of h).body))) same (texts.block_of_scope k h stands) in
    let all : is_in d.0.name (all_sets (map equation_case (block_of h).body)) ≡ true = (stands.of_node.sound_node.sound_parts _ has d.0 n.0).1 in
    let y = flat_in sets_of (block_of h).body z (ap (is_in z) (sym (flat_map-map (λ c. c.sets) equation_case (block_of h).body)) ∙ subst (λ (x : Name). is_in x (all_sets (map equation_case (block_of h).body)) ≡ true) (sym n.1) all) in
    record {
      equation = y.element;
      in_block = y.among;
      set = sets_inside z y.element (descends y.element) y.has;
      declared = declared_at z (block_parts (site_of h) (block_of h)) (record { site = site_of h; part = Block_part locals (map equation_case (block_of h).body) }) (contains_first _ _ _ refl) declared;
    }
