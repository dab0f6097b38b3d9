-- What a part sees is declared in its node: what holds of all declarations of a node holds of what its parts see.
use Rattle.std.proofs.Common.{Bool, true, false, List, [], ◌∷◌, ◌++◌, map}
use Rattle.std.specs.List.{flat_map}
use Rattle.hept_ast.specs.Texts.{Name}
use Rattle.hept_ast.specs.Parts.{Branch_of, Body_of, State_of, Surroundings, Placed, transitions, states_in, strong_in, parts_of, parts_of_all, parts_of_branches, parts_of_body, parts_of_states, parts, declared_in, locals_around, seen_at}
use Rattle.hept_ast.specs.declared.tree.Decl.{Decl}
use Rattle.hept_ast.specs.declared.tree.Expr.{Expr}
use Rattle.hept_ast.specs.declared.tree.Escape.{Escape}
use Rattle.hept_ast.specs.declared.tree.Node.{Node}
use Rattle.hept_ast.specs.declared.tree.Equation.{Equation, Define, Switch', Reset', Automaton', Row_of-Equation, end_of-Equation, more_of-Equation, Row_of-Branch, end_of-Branch, more_of-Branch, Row_of-Block, end_of-Block, more_of-Block, Row_of-State, end_of-State, more_of-State}
use Rattle.hept_ast.proofs.Unfolded.{static}
use Rattle.erased_rules.proofs.ByForms.{Each}
use Rattle.erased_rules.proofs.TypedExpressions.{each_left, each_right, each_both}

module _ (K : Decl → Type 0) where
  abbrev pub Declares : Placed → Type 0
  Declares q = Each K (declared_in q.part)

  abbrev Sees : Placed → Type 0
  Sees q = Each K (locals_around q.site)

  transitions_see : (site : Surroundings) → Each K (locals_around site) → (strong : Bool) (states : List Name) (es : List Escape) → Each Sees (transitions site strong states es)
  transitions_see site k strong states [] = tt
  transitions_see site k strong states (e ∷ es) = (k, transitions_see site k strong states es)

  mutual
    unfolding static

    see : (site : Surroundings) → Each K (locals_around site) → (e : Equation) → Each Declares (parts_of site e) → Each Sees (parts_of site e)
    see site k (Define p left right) h = (k, tt)
    see site k (Switch' p on n branches) h = (k, branches_see site k on branches h.1)
    see site k (Reset' p n body every) h = (k, body_sees site k every body h.1)
    see site k (Automaton' p n states) h = (k, states_see site k (strong_in states) (map (λ c. c.label) (states_in states)) states h.1)

    all_see : {n : _} (site : Surroundings) → Each K (locals_around site) → (row : Row_of-Equation n) → Each Declares (parts_of_all site row) → Each Sees (parts_of_all site row)
    all_see site k end_of-Equation h = tt
    all_see site k (more_of-Equation e rest) h =
        each_both Sees (parts_of site e) (parts_of_all site rest) (see site k e (each_left Declares (parts_of site e) (parts_of_all site rest) h))
        (all_see site k rest (each_right Declares (parts_of site e) (parts_of_all site rest) h))

    branches_see : {n : _} (site : Surroundings) → Each K (locals_around site) → (on : Expr) (row : Row_of-Branch n) → Each Declares (parts_of_branches site on row) → Each Sees (parts_of_branches site on row)
    branches_see site k on end_of-Branch h = tt
    branches_see site k on (more_of-Branch p tag locals n body rest) h =
        let inner = Branch_of on locals ∷ site in
        let ki : Each K (locals ++ locals_around site) = each_both K locals (locals_around site) h.0 k in (
          ki,
          each_both Sees (parts_of_all inner body) (parts_of_branches site on rest) (all_see inner ki body (each_left Declares (parts_of_all inner body) (parts_of_branches site on rest) h.1))
              (branches_see site k on rest (each_right Declares (parts_of_all inner body) (parts_of_branches site on rest) h.1)),
        )

    body_sees : {n : _} (site : Surroundings) → Each K (locals_around site) → (every : Expr) (row : Row_of-Block n) → Each Declares (parts_of_body site every row) → Each Sees (parts_of_body site every row)
    body_sees site k every end_of-Block h = tt
    body_sees site k every (more_of-Block locals n body rest) h =
        let inner = Body_of every locals ∷ site in
        let ki : Each K (locals ++ locals_around site) = each_both K locals (locals_around site) h.0 k in (
          ki,
          each_both Sees (parts_of_all inner body) (parts_of_body site every rest) (all_see inner ki body (each_left Declares (parts_of_all inner body) (parts_of_body site every rest) h.1))
              (body_sees site k every rest (each_right Declares (parts_of_all inner body) (parts_of_body site every rest) h.1)),
        )

    states_see : {n : _} (site : Surroundings) → Each K (locals_around site) → (strong : List Expr) (names : List Name) (row : Row_of-State n) → Each Declares (parts_of_states site strong names row) →
        Each Sees (parts_of_states site strong names row)
    states_see site k strong names end_of-State h = tt
    states_see site k strong names (more_of-State p name locals n body weak own rest) h =
        let inner = State_of strong locals ∷ site in
        let ki : Each K (locals ++ locals_around site) = each_both K locals (locals_around site) h.0 k in
        let a = parts_of_all inner body in
        let b = transitions inner false names weak in
        let c = transitions site true names own in
        let d = parts_of_states site strong names rest in
        let abc = each_left Declares (a ++ b ++ c) d h.1 in
        let ab = each_left Declares (a ++ b) c abc in (
          ki,
          each_both Sees (a ++ b ++ c) d
              (each_both Sees (a ++ b) c (each_both Sees a b (all_see inner ki body (each_left Declares a b ab)) (transitions_see inner ki false names weak)) (transitions_see site k true names own))
              (states_see site k strong names rest (each_right Declares (a ++ b ++ c) d h.1)),
        )

  equations_see : (es : List Equation) → Each Declares (flat_map (parts_of []) es) → Each Sees (flat_map (parts_of []) es)
  equations_see [] h = tt
  equations_see (e ∷ es) h =
      each_both Sees (parts_of [] e) (flat_map (parts_of []) es) (see [] tt e (each_left Declares (parts_of [] e) (flat_map (parts_of []) es) h))
      (equations_see es (each_right Declares (parts_of [] e) (flat_map (parts_of []) es) h))

  widened : (node : Node) → Each K node.block.locals → Each K node.outputs → Each K node.inputs → (qs : List Placed) → Each Sees qs → Each (λ q. Each K (seen_at node q.site)) qs
  widened node l o i [] h = tt
  widened node l o i (q ∷ qs) h = (
    each_both K (locals_around q.site ++ node.block.locals ++ node.outputs) node.inputs (each_both K (locals_around q.site ++ node.block.locals) node.outputs (each_both K (locals_around q.site) node.block.locals h.0 l) o) i,
    widened node l o i qs h.1,
  )

  pub node_sees : (node : Node) → Each K node.inputs → Each Declares (parts node) → Each (λ q. Each K (seen_at node q.site)) (parts node)
  node_sees node i h =
      widened node (each_right K node.outputs node.block.locals h.0) (each_left K node.outputs node.block.locals h.0) i (parts node) (tt, equations_see node.block.body h.1)
