-- Each part of a node stands in a scope of each body of the node.
use Rattle.std.proofs.Common.{◌≡◌, ⊎_elim, Bool, true, false, List, [], ◌∷◌, ◌++◌, map, refl, sym, ◌∙◌, ap, subst}
use Rattle.std.specs.Prelude.{Contains}
use Rattle.std.specs.List.{flat_map}
use Rattle.std.proofs.lemmas.List.Elements.{Contains-append_cases}
use Rattle.hept_ast.specs.Texts.{Name}
use Rattle.hept_ast.specs.Scopes.{Scope, In_branch, In_body, In_state, block_of, block_or_none, state_block, text_block}
use Rattle.hept_ast.specs.Parts.{Branch_of, Surroundings, Part, Plain, Switch, Reset, Automaton, Placed, block_parts, block_sets, branch_case, parts, parts_of, state_case, state_parts, strong_of_all, transitions}
use Rattle.hept_ast.specs.declared.name.Place.{Place}
use Rattle.hept_ast.specs.declared.tree.Block as tree
use Rattle.hept_ast.specs.declared.tree.Branch.{Branch}
use Rattle.hept_ast.specs.declared.tree.State.{State}
use Rattle.hept_ast.specs.declared.tree.Escape.{Escape}
use Rattle.hept_ast.specs.declared.tree.Expr.{Expr}
use Rattle.hept_ast.specs.declared.tree.Equation.{Equation, out-Equation}
use Rattle.hept_ast.specs.declared.tree.Equation.TheOpen.{Equation-F}
use Rattle.sound_expressions.specs.Sound.{Within}
use Rattle.accepted_meaning.specs.Placing.{site_of}
use Rattle.accepted_meaning.specs.Running.{Run, StandsIn}
use Rattle.accepted_meaning.specs.Structure.{IsEquationOf}
use Rattle.accepted_meaning.proofs.FitsTexts.{parts_are, parts_view}
use Rattle.accepted_meaning.proofs.KnownCarried.{frame_site}
use Rattle.accepted_meaning.proofs.KnownScopes.{IsAround, itself, around_branch, around_body, around_state, IsFrame, a_top, a_call, stands_in_branch, stands_in_body, stands_in_state}
use Rattle.accepted_meaning.proofs.KnownTexts.{Descends, descend, descends, inner_blocks}
use Rattle.accepted_meaning.proofs.TextApart.{state_site}
use Rattle.accepted_meaning.proofs.TextLists.{contains_cases, contains_here, contains_map, contains_none, flattened, got_from_contains, mapped}

-- a scope of a body whose block stands at a site
pub record StandsAt (r : Run) (k : Within) (f : Scope) (site : Surroundings) : Type 0 where
  pub scope : Scope
  pub around : IsAround f scope
  pub stands : StandsIn r k scope
  pub is : site_of scope ≡ site

module _ (r : Run) (k : Within) (f : Scope) where
  here : (s : Scope) (q : Placed) → IsAround f s → StandsIn r k s → site_of s ≡ q.site → StandsAt r k f q.site
  here s q around stands is = record { scope = s; around = around; stands = stands; is = is }

  -- all parts of an equation do
  abbrev Inner : Equation → Type 0
  Inner e = (s : Scope) (q : Placed) → IsAround f s → IsEquationOf r k s e → Contains (parts_of (site_of s) e) q → StandsAt r k f q.site

  abbrev Each_inner : Equation-F Equation tree.Block Branch State → Type 0
  Each_inner v = (block : tree.Block) (x : Equation) → Contains (inner_blocks v) block → Contains block.body x → Inner x

  in_block : (u : Scope) (q : Placed) → IsAround f u → StandsIn r k u → ((x : Equation) → Contains (block_of u).body x → Inner x) → Contains (block_parts (site_of u) (block_of u)) q → StandsAt r k f q.site
  in_block u q around stands each at =
      ⊎_elim (λ is. here u q around stands (ap (λ (z : Placed). z.site) is))
      (λ c. let (x, i, j) = flattened (parts_of (site_of u)) (block_of u).body q c in each x i u q around (record { stands = stands; in_block = i }) j)
      (contains_cases _ q (flat_map (parts_of (site_of u)) (block_of u).body) at)

  in_transitions : (u : Scope) (q : Placed) (site : Surroundings) (strong : Bool) (labels : List Name) (es : List Escape) → IsAround f u → StandsIn r k u → site_of u ≡ site → Contains (transitions site strong labels es) q → StandsAt r k f q.site
  in_transitions u q site strong labels es around stands is at = let (x, i, same) = mapped _ es q at in here u q around stands (is ∙ ap (λ (z : Placed). z.site) same)

  module _ (s : Scope) (e : Equation) (q : Placed) (around : IsAround f s) (h : IsEquationOf r k s e) where
    first : (part : Part) (rest : List Placed) → (Contains rest q → StandsAt r k f q.site) → Contains (record { site = site_of s; part = part } ∷ rest) q → StandsAt r k f q.site
    first part rest later at = ⊎_elim (λ same. here s q around h.stands (ap (λ (z : Placed). z.site) same)) later (contains_cases (record { site = site_of s; part = part }) q rest at)

    in_branches : (p : Place) (on : Expr) (branches : List Branch) → out-Equation e ≡ Equation-F.Switch p on branches → Each_inner (Equation-F.Switch p on branches) →
        Contains (flat_map (λ b. block_parts (Branch_of on b.block.locals ∷ site_of s) b.block) branches) q → StandsAt r k f q.site
    in_branches p on branches is each at =
        let (b, among, i) = flattened (λ (b : Branch). block_parts (Branch_of on b.block.locals ∷ site_of s) b.block) branches q at in
        in_block (In_branch s on b) q (around_branch around) (stands_in_branch p on branches b h is among) (λ x j. each b.block x (contains_map (λ (b : Branch). b.block) branches b among) j) i

    in_states : (p : Place) (states : List State) → out-Equation e ≡ Equation-F.Automaton p states → Each_inner (Equation-F.Automaton p states) →
        Contains (flat_map (state_parts (site_of s) (strong_of_all states) (map (λ c. c.label) (map state_case states))) states) q → StandsAt r k f q.site
    in_states p states is each at =
        let labels : List Name = map (λ c. c.label) (map state_case states) in
        let (x, among, i) = flattened (state_parts (site_of s) (strong_of_all states) labels) states q at in
        let (j, got) = got_from_contains states x among in
        let u : Scope = In_state s states j in
        let around_u : IsAround f u = around_state around in
        let stands : StandsIn r k u = stands_in_state p states j x h is got in
        let block_is : x.block ≡ state_block states j = sym (ap block_or_none got) in
        let site : Surroundings = state_site s states x.block in
        let block = block_parts site x.block in
        let weak = transitions site false labels x.weak in
        let strong = transitions (site_of s) true labels x.strong in
        ⊎_elim
        (λ c. ⊎_elim
        (λ d. in_block u q around_u stands (λ y m. each x.block y (contains_map (λ (z : State). z.block) states x among) (subst (λ (b : tree.Block). Contains b.body y) (sym block_is) m))
        (subst (λ (b : tree.Block). Contains (block_parts (state_site s states b) b) q) block_is d))
        (λ d. in_transitions u q site false labels x.weak around_u stands (ap (state_site s states) (sym block_is)) d)
        (Contains-append_cases block weak q c))
        (λ c. in_transitions s q (site_of s) true labels x.strong around h.stands refl c)
        (Contains-append_cases (block ++ weak) strong q i)

    in_view : (v : Equation-F Equation tree.Block Branch State) → out-Equation e ≡ v → Each_inner v → Contains (parts_view (site_of s) v) q → StandsAt r k f q.site
    in_view (Equation-F.Define p left right) is each at = first (Plain p.0 left right) [] (λ c. contains_none q c) at
    in_view (Equation-F.Switch p on branches) is each at = first (Switch p.0 on (map branch_case branches)) _ (in_branches p on branches is each) at
    in_view (Equation-F.Reset p block every) is each at =
        first (Reset p.0 every (block_sets block)) (block_parts (site_of (In_body s every block)) block)
        (in_block (In_body s every block) q (around_body around) (stands_in_body p block every h is) (λ x j. each block x (contains_here block []) j)) at
    in_view (Equation-F.Automaton p states) is each at = first (Automaton p.0 (map state_case states)) _ (in_states p states is each) at

  by_view : (e : Equation) (v : Equation-F Equation tree.Block Branch State) → out-Equation e ≡ v → Each_inner v → Inner e
  by_view e v is each s q around h at = in_view s e q around h v is each (subst (λ (qs : List Placed). Contains qs q) (parts_are (site_of s) e v is) at)

  inner : (e : Equation) → Descends e → Inner e
  inner e (descend next) = by_view e (out-Equation e) refl (λ block x i j. inner x (next block x i j))

  frame_block : (g : Scope) → IsFrame g → StandsIn r k g → block_of g ≡ k.node.block
  frame_block _ a_top stands = ap text_block stands.text
  frame_block _ a_call stands = ap text_block stands.text

  pub part_stands : IsFrame f → StandsIn r k f → (q : Placed) → Contains (parts k.node) q → StandsAt r k f q.site
  part_stands frame stands q at =
      ⊎_elim (λ same. here f q itself stands (frame_site f frame ∙ ap (λ (z : Placed). z.site) same))
      (λ c.
      let (x, i, j) = flattened (parts_of []) k.node.block.body q c in
      inner x (descends x) f q itself (record { stands = stands; in_block = subst (λ (b : tree.Block). Contains b.body x) (sym (frame_block f frame stands)) i })
      (subst (λ (site : Surroundings). Contains (parts_of site x) q) (sym (frame_site f frame)) j))
      (contains_cases _ q (flat_map (parts_of []) k.node.block.body) at)
