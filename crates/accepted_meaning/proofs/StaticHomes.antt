-- Where a variable that is seen in a scope is declared, and what gives it there.
use Rattle.std.proofs.Common.{◌≡◌, Bool, true, false, ◌||◌, if◌then◌else◌, List, [], ◌∷◌, ◌++◌, map, refl, sym, ap, subst, ◌∙◌, ◌⊎◌, inl, inr, ⊎_elim, Contains, Some, slice_get, append_assoc}
use Rattle.std.specs.List.{flat_map}
use Rattle.std.proofs.lemmas.Bool.{false≢true}
use Rattle.std.proofs.lemmas.List.Elements.{Contains-append_left, Contains-append_right, Contains-append_cases}
use Rattle.hept_ast.specs.Texts.{Name, is_in, names, place_in, same}
use Rattle.hept_ast.specs.Scopes.{Clock, Text, Scope, Top, Called, In_branch, In_body, In_state, Under, block_of, declared_in, declares, home, input_decls, inputs_of, local_decls, node_decls, output_decls, state_block, text_of}
use Rattle.hept_ast.specs.Parts.{Branch_of, Body_of, State_of, Surroundings, Block, Placed, declaration, equation_case, locals_around, parts, seen_at, sets_of, strong_of_all, variables}
use Rattle.hept_ast.specs.Parts as texts
use Rattle.hept_ast.specs.Clocks.{own_names}
use Rattle.hept_ast.specs.Meaning.{Defined, Reads, answer_to, argument_rule}
use Rattle.hept_ast.specs.declared.tree.Decl.{Decl}
use Rattle.hept_ast.specs.declared.tree.Node.{Node}
use Rattle.hept_ast.specs.declared.tree.Equation.{Equation}
use Rattle.sound_expressions.specs.Sound.{Within, Sees}
use Rattle.accepted_meaning.specs.SoundNodes.{all_sets}
use Rattle.sound_expressions.specs.Demands.{NamesDiffer}
use Rattle.accepted_meaning.specs.Placing.{site_of}
use Rattle.accepted_meaning.specs.Running.{Run, StandsIn, setting_of}
use Rattle.accepted_meaning.specs.Structure.{HasPart, HomeOf, IsHome, IsSeenFrom, RuleOfDefined, SeenFromHome, SourceOf, at_home, by_equation, called_input, defined_in, in_branch, in_body, in_state, top_input}
use Rattle.sound_expressions.proofs.Lists.{same_is, same_self}
use Rattle.sound_expressions.proofs.Values.{differ_left, not_in_first}
use Rattle.accepted_meaning.proofs.FitsTexts.{block_of_scope, body_outside, branch_outside, clock_in_text, clock_of_seen, state_outside}
use Rattle.accepted_meaning.proofs.TextLists.{contains_cases, contains_none, declaration_left, declaration_right, declared_name, is_in_declared, is_in_contains, contains_map, contains_flat, names_append, flat_is_in, mapped}

-- ---- declarations with different names

pub declared_once : (ds : List Decl) → NamesDiffer (names ds) → (d : Decl) → Contains ds d → declaration ds d.name ≡ Some d
declared_once [] differ d at = contains_none d at
declared_once (e ∷ es) differ d at = ⊎_elim first (λ c. ap (λ b. if b then Some e else declaration es d.name) (other (same d.name e.name) refl c) ∙ declared_once es differ.1 d c) (contains_cases e d es at)
  where
    first : e ≡ d → declaration (e ∷ es) d.name ≡ Some d
    first is = ap (λ b. if b then Some e else declaration es d.name) (subst (λ (x : Decl). same x.name e.name ≡ true) is (same_self e.name)) ∙ ap Some is

    other : (b : Bool) → same d.name e.name ≡ b → Contains es d → b ≡ false
    other true s c = absurd (false≢true (sym differ.0 ∙ subst (λ (x : Name). is_in x (names es) ≡ true) (same_is d.name e.name s) (is_in_contains d.name (names es) (contains_map (λ (x : Decl). x.name) es d c))))
    other false s c = refl

-- ---- what a node's own block sees

own_order : (node : Node) (d : Decl) → Contains (seen_at node []) d → Contains ((node.inputs ++ node.outputs) ++ node.block.locals) d
own_order node d at =
    let is = node.inputs in
    let os = node.outputs in
    let ls = node.block.locals in
    ⊎_elim (λ c. ⊎_elim (λ l. Contains-append_right (is ++ os) ls d l) (λ o. Contains-append_left (is ++ os) ls d (Contains-append_right is os d o)) (Contains-append_cases ls os d c))
    (λ i. Contains-append_left (is ++ os) ls d (Contains-append_left is os d i)) (Contains-append_cases (ls ++ os) is d at)

own_differ : (node : Node) → NamesDiffer (names (variables node)) → NamesDiffer (names ((node.inputs ++ node.outputs) ++ node.block.locals))
own_differ node differ =
    let is = node.inputs in
    let os = node.outputs in
    let ls = node.block.locals in
    let rest = flat_map (λ (q : Placed). texts.declared_in q.part) (flat_map (texts.parts_of []) node.block.body) in
    let order : is ++ ((os ++ ls) ++ rest) ≡ ((is ++ os) ++ ls) ++ rest = sym (append_assoc is (os ++ ls) rest) ∙ ap (λ l. l ++ rest) (sym (append_assoc is os ls)) in
    differ_left (names ((is ++ os) ++ ls)) (names rest) (subst NamesDiffer (ap names order ∙ names_append ((is ++ os) ++ ls) rest) differ)

own_declared : (node : Node) → NamesDiffer (names (variables node)) → (x : Name) (d : Decl) → declaration (seen_at node []) x ≡ Some d → declaration ((node.inputs ++ node.outputs) ++ node.block.locals) x ≡ Some d
own_declared node differ x d e =
    let (at, is) = declared_name (seen_at node []) x d e in
    subst (λ (z : Name). declaration ((node.inputs ++ node.outputs) ++ node.block.locals) z ≡ Some d) (sym is) (declared_once _ (own_differ node differ) d (own_order node d at))

-- ---- what is seen further out

outer_seen : (node : Node) (ls around : List Decl) → (ls ++ around) ++ node.block.locals ++ node.outputs ++ node.inputs ≡ ls ++ (around ++ node.block.locals ++ node.outputs ++ node.inputs)
outer_seen node ls around =
    ap (λ l. l ++ node.outputs ++ node.inputs) (append_assoc ls around node.block.locals)
    ∙ ap (λ l. l ++ node.inputs) (append_assoc ls (around ++ node.block.locals) node.outputs)
    ∙ append_assoc ls (around ++ node.block.locals ++ node.outputs) node.inputs

not_in_front : (x : Name) (xs ys : List Name) → is_in x xs ≡ false → is_in x (xs ++ ys) ≡ is_in x ys
not_in_front x [] ys e = refl
not_in_front x (z ∷ zs) ys e = go (same x z) e (not_in_front x zs ys)
  where
    go : (b : Bool) → b || is_in x zs ≡ false → (is_in x zs ≡ false → is_in x (zs ++ ys) ≡ is_in x ys) → b || is_in x (zs ++ ys) ≡ is_in x ys
    go true e later = absurd (false≢true (sym e))
    go false e later = later e

module _ (r : Run) where
  -- inside a branch or state: what it does not declare is on the base clock
  branch_sees : (k : Within) (site : Surroundings) (x : Name) (d : Decl) (c : Clock) (ls : List Decl) → is_in x (names ls) ≡ false →
      declaration ((ls ++ locals_around site) ++ k.node.block.locals ++ k.node.outputs ++ k.node.inputs) x ≡ Some d →
      (if is_in x (names ls) then k.clock x else []) ≡ c → (is_in x (names ls) ≡ true) ⊎ (k.clock x ≡ []) → Sees k site x d c × (c ≡ [])
  branch_sees k site x d c ls absent e here outer = (
    record {
      declared = sym (declaration_right ls (seen_at k.node site) x absent) ∙ ap (λ l. declaration l x) (sym (outer_seen k.node ls (locals_around site))) ∙ e;
      here = base_here (is_in x (own_names k.node site)) ∙ sym is_base;
      outer = inr base;
    },
    is_base,
  )
    where
      base : k.clock x ≡ []
      base = ⊎_elim (λ t. absurd (false≢true (sym absent ∙ t))) (λ b. b) outer

      is_base : c ≡ []
      is_base = sym here ∙ ap (λ b. if b then k.clock x else []) absent

      base_here : (b : Bool) → (if b then k.clock x else []) ≡ []
      base_here true = base
      base_here false = refl

  inner_declared : (k : Within) (site : Surroundings) (x : Name) (d : Decl) (ls : List Decl) → is_in x (names ls) ≡ true →
      declaration ((ls ++ locals_around site) ++ k.node.block.locals ++ k.node.outputs ++ k.node.inputs) x ≡ Some d → declaration ls x ≡ Some d
  inner_declared k site x d ls found e = sym (declaration_left ls (seen_at k.node site) x found) ∙ ap (λ l. declaration l x) (sym (outer_seen k.node ls (locals_around site))) ∙ e

  node_home : (k : Within) (s : Scope) (x : Name) (d : Decl) (c : Clock) → StandsIn r k s → site_of s ≡ [] → home x s ≡ s → declared_in s ≡ node_decls (text_of s) → Sees k (site_of s) x d c → IsSeenFrom r k x d c s s
  node_home k s x d c stands empty itself decls sees =
      at_home stands itself (is_in_declared (declared_in s) x d e) e sees
    where
      e : declaration (declared_in s) x ≡ Some d
      e = ap (λ l. declaration l x) (decls ∙ ap node_decls stands.text) ∙ own_declared k.node stands.of_node.sound_node.once x d (subst (λ (site : Surroundings). declaration (seen_at k.node site) x ≡ Some d) empty sees.declared)

  seen_from : (k : Within) (s : Scope) (x : Name) (d : Decl) (c : Clock) → StandsIn r k s → Sees k (site_of s) x d c → IsSeenFrom r k x d c (home x s) s
  seen_from k (Top text) x d c stands sees = node_home k (Top text) x d c stands refl refl refl sees
  seen_from k (Called s clock place args text) x d c stands sees = node_home k (Called s clock place args text) x d c stands refl refl refl sees
  seen_from k (In_branch s on b) x d c stands sees = go (declares (In_branch s on b) x) refl (λ (h : StandsIn r k s) (v : Sees k (site_of s) x d c). seen_from k s x d c h v)
    where
      h : Scope
      h = In_branch s on b

      go : (t : Bool) → declares (In_branch s on b) x ≡ t → (StandsIn r k s → Sees k (site_of s) x d c → IsSeenFrom r k x d c (home x s) s) → IsSeenFrom r k x d c (if t then In_branch s on b else home x s) (In_branch s on b)
      go true e outer = at_home stands (ap (λ t. if t then In_branch s on b else home x s) e) e (inner_declared k (site_of s) x d b.block.locals e sees.declared) sees
      go false e outer =
          let (v, base) = branch_sees k (site_of s) x d c b.block.locals e sees.declared sees.here sees.outer in
          let o = branch_outside r k s on b stands in
          in_branch (outer o.3.stands v) stands (ap (λ t. if t then In_branch s on b else home x s) e) sees base
  seen_from k (In_body s every block) x d c stands sees = go (declares (In_body s every block) x) refl (λ (h : StandsIn r k s) (v : Sees k (site_of s) x d c). seen_from k s x d c h v)
    where
      go : (t : Bool) → declares (In_body s every block) x ≡ t → (StandsIn r k s → Sees k (site_of s) x d c → IsSeenFrom r k x d c (home x s) s) → IsSeenFrom r k x d c (if t then In_body s every block else home x s) (In_body s every block)
      go true e outer = at_home stands (ap (λ t. if t then In_body s every block else home x s) e) e (inner_declared k (site_of s) x d block.locals e sees.declared) sees
      go false e outer =
          let own_is = not_in_front x (names block.locals) (own_names k.node (site_of s)) e in
          let o = body_outside r k s every block stands in
          let v : Sees k (site_of s) x d c = record {
            declared = sym (declaration_right block.locals (seen_at k.node (site_of s)) x e) ∙ ap (λ l. declaration l x) (sym (outer_seen k.node block.locals (locals_around (site_of s)))) ∙ sees.declared;
            here = ap (λ t. if t then k.clock x else []) (sym own_is) ∙ sees.here;
            outer = ⊎_elim (λ t. inl (sym own_is ∙ t)) (λ t. inr t) sees.outer;
          } in
          in_body (outer o.2.stands v) stands (ap (λ t. if t then In_body s every block else home x s) e) sees
  seen_from k (In_state s states j) x d c stands sees = go (declares (In_state s states j) x) refl (λ (h : StandsIn r k s) (v : Sees k (site_of s) x d c). seen_from k s x d c h v)
    where
      go : (t : Bool) → declares (In_state s states j) x ≡ t → (StandsIn r k s → Sees k (site_of s) x d c → IsSeenFrom r k x d c (home x s) s) → IsSeenFrom r k x d c (if t then In_state s states j else home x s) (In_state s states j)
      go true e outer = at_home stands (ap (λ t. if t then In_state s states j else home x s) e) e (inner_declared k (site_of s) x d (state_block states j).locals e sees.declared) sees
      go false e outer =
          let (v, base) = branch_sees k (site_of s) x d c (state_block states j).locals e sees.declared sees.here sees.outer in
          let o = state_outside r k s states j stands in
          in_state (outer o.3.stands v) stands (ap (λ t. if t then In_state s states j else home x s) e) sees base
  seen_from k (Under s resets) x d c stands sees = elim stands.placed [ ]

  pub seen_from_home : SeenFromHome r
  seen_from_home k s x d c stands sees = seen_from k s x d c stands sees

-- ---- the home of a variable

home_of_seen : (r : Run) (k : Within) (x : Name) (d : Decl) (c : Clock) (h s : Scope) → IsSeenFrom r k x d c h s → IsHome r k x d c h
home_of_seen r k x d c h s (at_home stands itself declares declared sees) = record {
  stands = stands;
  itself = itself;
  declares = declares;
  declared = declared;
  sees = sees;
  clock = clock_in_text r k h x stands ∙ clock_of_seen k (site_of h) x d c sees;
}
home_of_seen r k x d c h s (in_branch {s = t} inner stands itself sees base) = home_of_seen r k x d c h t inner
home_of_seen r k x d c h s (in_body {s = t} inner stands itself sees) = home_of_seen r k x d c h t inner
home_of_seen r k x d c h s (in_state {s = t} inner stands itself sees base) = home_of_seen r k x d c h t inner

pub home_of : (r : Run) → HomeOf r
home_of r k s x d c stands sees = home_of_seen r k x d c (home x s) s (seen_from_home r k s x d c stands sees)

-- ---- what gives a variable its value

-- what a block has to define is no input, and an equation of the block defines it
defined_there : (r : Run) (k : Within) (h : Scope) (x : Name) (d : Decl) → StandsIn r k h → Contains (defined_in h) d → x ≡ d.name →
    (is_in x (inputs_of (text_of h)) ≡ false) × ((e : Equation) × Contains (block_of h).body e × (is_in x (sets_of e) ≡ true))
defined_there r k h x d stands at is = (no_input, by)
  where
    block : HasPart k (site_of h) (Block (defined_in h) (map equation_case (block_of h).body))
    block = block_of_scope r k h stands

    node : Node
    node = k.node

    declared : is_in x (names (flat_map (λ (q : Placed). texts.declared_in q.part) (parts node))) ≡ true
    declared = subst (λ (z : Name). is_in z (names (flat_map (λ (q : Placed). texts.declared_in q.part) (parts node))) ≡ true) (sym is)
        (is_in_contains d.name _ (contains_map (λ (z : Decl). z.name) (flat_map (λ (q : Placed). texts.declared_in q.part) (parts node)) d
        (contains_flat (λ (q : Placed). texts.declared_in q.part) (parts node) (record { site = site_of h; part = Block (defined_in h) (map equation_case (block_of h).body) }) d block at)))

    no_input : is_in x (inputs_of (text_of h)) ≡ false
    no_input = ap (λ (t : Text). is_in x (inputs_of t)) stands.text
        ∙ not_in_first x (names node.inputs) (names (flat_map (λ (q : Placed). texts.declared_in q.part) (parts node)))
        (subst NamesDiffer (names_append node.inputs (flat_map (λ (q : Placed). texts.declared_in q.part) (parts node))) stands.of_node.sound_node.once) declared

    sets : is_in d.name (all_sets (map equation_case (block_of h).body)) ≡ true
    sets = (stands.of_node.sound_node.sound_parts (record { site = site_of h; part = Block (defined_in h) (map equation_case (block_of h).body) }) block d at).1

    by : (e : Equation) × Contains (block_of h).body e × (is_in x (sets_of e) ≡ true)
    by =
        let (c, c_at, c_sets) = flat_is_in (λ (z : texts.Case (Unit {0})). z.sets) (map equation_case (block_of h).body) d.name sets in
        let (e, e_at, e_is) = mapped equation_case (block_of h).body c c_at in
        (e, e_at, subst (λ (z : Name). is_in z (sets_of e) ≡ true) (sym is) (subst (λ (z : texts.Case (Unit {0})). is_in d.name z.sets ≡ true) (sym e_is) c_sets))

either_input : (x : Name) (d : Decl) (text : Text) → Contains (node_decls text) d → x ≡ d.name → (is_in x (inputs_of text) ≡ true) ⊎ Contains (output_decls text ++ local_decls text) d
either_input x d text at is =
    let input = λ (c : Contains (input_decls text) d). subst (λ (z : Name). is_in z (inputs_of text) ≡ true) (sym is) (is_in_contains d.name (inputs_of text) (contains_map (λ (z : Decl). z.name) (input_decls text) d c)) in
    ⊎_elim (λ c. ⊎_elim (λ i. inl (input i)) (λ o. inr (Contains-append_left (output_decls text) (local_decls text) d o)) (Contains-append_cases (input_decls text) (output_decls text) d c))
    (λ l. inr (Contains-append_right (output_decls text) (local_decls text) d l)) (Contains-append_cases (input_decls text ++ output_decls text) (local_decls text) d at)

pub source_of : (r : Run) → SourceOf r
source_of r k (Top text) x d c h =
    let (at, is) = declared_name (node_decls text) x d h.declared in
    ⊎_elim (λ i. top_input i) (λ o. let s = defined_there r k (Top text) x d h.stands o is in by_equation s.0 s.1.1 s.1.2) (either_input x d text at is)
source_of r k (Called s clock place args text) x d c h =
    let (at, is) = declared_name (node_decls text) x d h.declared in
    ⊎_elim (λ i. called_input i) (λ o. let t = defined_there r k (Called s clock place args text) x d h.stands o is in by_equation t.0 t.1.1 t.1.2) (either_input x d text at is)
source_of r k (In_branch s on b) x d c h =
    let (at, is) = declared_name b.block.locals x d h.declared in
    let t = defined_there r k (In_branch s on b) x d h.stands at is in by_equation t.0 t.1.1 t.1.2
source_of r k (In_body s every block) x d c h =
    let (at, is) = declared_name block.locals x d h.declared in
    let t = defined_there r k (In_body s every block) x d h.stands at is in by_equation t.0 t.1.1 t.1.2
source_of r k (In_state s states j) x d c h =
    let (at, is) = declared_name (state_block states j).locals x d h.declared in
    let t = defined_there r k (In_state s states j) x d h.stands at is in by_equation t.0 t.1.1 t.1.2
source_of r k (Under s resets) x d c h = elim h.stands.placed [ ]

pub rule_of_defined : (r : Run) → RuleOfDefined r
rule_of_defined r k (Top text) x t stands e = ap (λ b. if b then Reads t (place_in x (inputs_of text)) else answer_to (Defined x (Top text) t)) e
rule_of_defined r k (Called s clock place args text) x t stands e =
    ap (λ b. if b then argument_rule (setting_of r) (slice_get args (place_in x (inputs_of text))) clock s t else answer_to (Defined x (Called s clock place args text) t)) e
rule_of_defined r k (In_branch s on b) x t stands e = refl
rule_of_defined r k (In_body s every block) x t stands e = refl
rule_of_defined r k (In_state s states j) x t stands e = refl
rule_of_defined r k (Under s resets) x t stands e = refl
