-- Texts of a program and of the core that comes of it: nodes by name, clocks, and what defines a variable.
use Rattle.std.proofs.Common.{◌≡◌, ℕ, suc, ◌+◌, slice_get, arith, Bool, true, false, if◌then◌else◌, List, [], ◌∷◌, ◌++◌, Option, Some, None, refl, sym, ap, subst, ◌∙◌}
use Rattle.std.specs.List.{find}
use Rattle.std.specs.Option.{option_map}
use Rattle.hept_ast.specs.Texts.{Name, same, is_in, names}
use Rattle.hept_ast.specs.Scopes.{Clock, Text, Written, Lowered, Top, inputs_of, outputs_of}
use Rattle.hept_ast.specs.Meaning.{Setting, clock_in, clock_seen}
use Rattle.hept_ast.specs.Settings.{written_node}
use Rattle.hept_ast.specs.declared.tree.Node.{Node}
use Rattle.hept_ast.specs.declared.tree.CoreNode.{CoreNode}
use Rattle.lowering_rules.specs.Ties.{Sides, TiedNode, TiedNodes, no_nodes, more_nodes, TiedText, tied_text}

module _ (z : Sides) where
  pub data TiedOption : Option Text → Option Text → Type 0 where
    no_text : TiedOption None None
    both : {text low : Text} → TiedText z text low → TiedOption (Some text) (Some low)

  -- the nodes from a position on
  abbrev From : {A : Type 0} → ℕ → List A → List A → Type 0
  From {A} j all later = (i : ℕ) (x : A) → slice_get later i ≡ Some x → slice_get all (j + i) ≡ Some x

  from_tail : {A : Type 0} (j : ℕ) (all later : List A) (x : A) → From j all (x ∷ later) → From (suc j) all later
  from_tail j all later x h i y p = let e : j + suc i ≡ suc j + i = omega arith in subst (λ (k : ℕ). slice_get all k ≡ Some y) e (h (suc i) y p)

  from_head : {A : Type 0} (j : ℕ) (all later : List A) (x : A) → From j all (x ∷ later) → slice_get all j ≡ Some x
  from_head j all later x h = let e : j + 0 ≡ j = omega arith in subst (λ (k : ℕ). slice_get all k ≡ Some x) e (h 0 x refl)

  -- nodes of one name are tied
  found_from : (f : Name) (k : ℕ) (nodes : List Node) (lows : List CoreNode) → From k z.nodes nodes → From k z.lows lows → TiedNodes z.clock k nodes lows →
      TiedOption (written_node nodes k f) (option_map Lowered (find (λ m. same f m.name) lows))
  found_from f k _ _ at low_at no_nodes = no_text
  found_from f k _ _ at low_at (more_nodes {node = node} {low = low} {nodes = nodes} {lows = lows} h hs) =
      go (same f node.name) (same f low.name) (ap (same f) h.name) (found_from f (suc k) nodes lows (from_tail k z.nodes nodes node at) (from_tail k z.lows lows low low_at) hs)
    where
      go : (b d : Bool) → d ≡ b → TiedOption (written_node nodes (suc k) f) (option_map Lowered (find (λ m. same f m.name) lows)) →
          TiedOption (if b then Some (Written k node) else written_node nodes (suc k) f) (option_map Lowered (if d then Some low else find (λ m. same f m.name) lows))
      go true true e rest = both (tied_text (from_head k z.nodes nodes node at) (from_head k z.lows lows low low_at) h)
      go false false e rest = rest
      go true false e rest = cc
      go false true e rest = cc

  from_all : {A : Type 0} (all : List A) → From 0 all all
  from_all all i x p = let e : i ≡ 0 + i = omega arith in subst (λ (k : ℕ). slice_get all k ≡ Some x) e p

  pub found_tied : (f : Name) → TiedNodes z.clock 0 z.nodes z.lows → TiedOption (written_node z.nodes 0 f) (option_map Lowered (find (λ m. same f m.name) z.lows))
  found_tied f h = found_from f 0 z.nodes z.lows (from_all z.nodes) (from_all z.lows) h

  pub inputs_same : (text low : Text) → TiedText z text low → inputs_of low ≡ inputs_of text
  inputs_same _ _ (tied_text at low_at h) = h.inputs

  pub outputs_same : (text low : Text) → TiedText z text low → outputs_of low ≡ outputs_of text
  outputs_same _ _ (tied_text at low_at h) = h.outputs

  -- in a setting of the program and one of the core each name has one clock
  pub clock_same : (w v : Setting) → w.clock ≡ z.clock → (text low : Text) (x : Name) → TiedText z text low → clock_in v low x ≡ clock_in w text x
  clock_same w v e _ _ x (tied_text {k = k} at low_at h) = h.clocks x ∙ ap (λ (c : ℕ → Name → Clock). c k x) (sym e)

  if_same : (b : Bool) (c : Clock) → (b ≡ false → c ≡ []) → (if b then c else []) ≡ c
  if_same true c h = refl
  if_same false c h = sym (h refl)

  -- what a body sees is on the clock that the node gives it
  pub seen_same : (w : Setting) (k : ℕ) (node : Node) (low : CoreNode) (x : Name) → TiedNode (w.clock k) node low → clock_seen w x (Top (Written k node)) ≡ w.clock k x
  seen_same w k node low x h = if_same (is_in x (names (node.inputs ++ node.outputs ++ node.block.locals))) (w.clock k x) (h.undeclared x)
