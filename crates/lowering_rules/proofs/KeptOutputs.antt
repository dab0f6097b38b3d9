-- Lowering keeps the outputs.
use Rattle.std.proofs.Common.{◌≡◌, ◌↔◌, ◌+◌, ℕ, zero, suc, List, [], ◌∷◌, Some, map, refl, sym, subst, arith}
use Rattle.std.specs.Prelude.{slice_get}
use Rattle.hept_ast.specs.Texts.{Name}
use Rattle.hept_ast.specs.Scopes.{Clock, Text, Written, Lowered, Top, outputs_of}
use Rattle.hept_ast.specs.Meaning.{Variable, Value, Setting}
use Rattle.hept_ast.specs.Outputs.{Knows, HaveValues, OutputsFrom, Outputs}
use Rattle.hept_ast.specs.Settings.{Marks, Replies, of_core, of_program, no_replies}
use Rattle.hept_ast.specs.Stages.{ClockedProgram}
use Rattle.hept_ast.specs.ClockMaps.{clock_in}
use Rattle.hept_ast.specs.declared.tree.Core.{Core}
use Rattle.hept_ast.specs.declared.tree.CoreNode.{CoreNode}
use Rattle.hept_ast.specs.declared.tree.Node.{Node}
use Rattle.hept_ast.specs.declared.tree.TypeDec.{TypeDec}
use Rattle.lowering_rules.specs.LoweringLaws.{LoweringKeepsOutputs, LoweringKeepsReplied}
use Rattle.lowering_rules.specs.CallPaths.{Agree}
use Rattle.lowering_rules.specs.Ties.{TiedNode, TiedNodes, no_nodes, more_nodes, TiedText, tied_text}
use Rattle.lowering_rules.specs.TiedScopes.{top}
use Rattle.lowering_rules.proofs.TiedTexts.{outputs_same}
use Rattle.lowering_rules.proofs.TiedQuestions.{w, v, variable, the_body, sides_of}
use Rattle.lowering_rules.proofs.Known.{knows_there, knows_back}
use Rattle.lowering_rules.proofs.Accepted.{accepted_is_tied}

-- ---- nodes by position

same_some : {A : Type 0} (a b : A) → Some a ≡ Some b → a ≡ b
same_some a b e = cc

node_by : (clock : Name → Clock) (a b : Node) (l m : CoreNode) → a ≡ b → l ≡ m → TiedNode clock a l → TiedNode clock b m
node_by clock a b l m e f h = subst (λ (x : CoreNode). TiedNode clock b x) f (subst (λ (x : Node). TiedNode clock x l) e h)

-- the nodes at one position are tied
pub at_position : (clock : ℕ → Name → Clock) (j i k : ℕ) (nodes : List Node) (lows : List CoreNode) (node : Node) (low : CoreNode) → TiedNodes clock j nodes lows → k ≡ j + i →
    slice_get nodes i ≡ Some node → slice_get lows i ≡ Some low → TiedNode (clock k) node low
at_position clock j i k _ _ node low no_nodes e p q = cc
at_position clock j zero k _ _ node low (more_nodes {node = a} {low = l} h hs) e p q =
    let f : j ≡ k = omega arith in
    subst (λ (i : ℕ). TiedNode (clock i) node low) f (node_by (clock j) a node l low (same_some a node p) (same_some l low q) h)
at_position clock j (suc i) k _ _ node low (more_nodes {nodes = nodes} {lows = lows} h hs) e p q =
    let f : k ≡ suc j + i = omega arith in
    at_position clock (suc j) i k nodes lows node low hs f p q

-- ---- outputs

module _ (a b : Setting) (rows : List (List ℕ)) (text low : Text)
    (h : (y : Name) (t u : ℕ) → Knows a rows (Variable y (Top text) t) (Value u) → Knows b rows (Variable y (Top low) t) (Value u)) where
  values_carried : (t : ℕ) (ys : List Name) (us : List ℕ) → HaveValues a rows (map (λ y. Variable y (Top text) t) ys) us → HaveValues b rows (map (λ y. Variable y (Top low) t) ys) us
  values_carried t [] [] k = tt
  values_carried t [] (u ∷ us) k = elim k [ ]
  values_carried t (y ∷ ys) [] k = elim k [ ]
  values_carried t (y ∷ ys) (u ∷ us) k = (h y t u k.0, values_carried t ys us k.1)

  pub outputs_carried : outputs_of low ≡ outputs_of text → (t : ℕ) (left outs : List (List ℕ)) → OutputsFrom a rows text t left outs → OutputsFrom b rows low t left outs
  outputs_carried e t [] [] k = tt
  outputs_carried e t [] (out ∷ outs) k = elim k [ ]
  outputs_carried e t (row ∷ left) [] k = elim k [ ]
  outputs_carried e t (row ∷ left) (out ∷ outs) k =
      (subst (λ (ys : List Name). HaveValues b rows (map (λ y. Variable y (Top low) t) ys) out) (sym e) (values_carried t (outputs_of text) out k.0), outputs_carried e (suc t) left outs k.1)

-- the nodes at one position have tied texts
pub texts_at : (c : ClockedProgram) (core : Core) (chosen : Text) → TiedNodes (clock_in c.clocks) 0 c.program.nodes core.nodes → (k : ℕ) (node : Node) (low : CoreNode) →
    slice_get c.program.nodes k ≡ Some node → slice_get core.nodes k ≡ Some low → TiedText (sides_of c core chosen) (Written k node) (Lowered low)
texts_at c core chosen nodes k node low at low_at =
    let e : k ≡ 0 + k = omega arith in
    tied_text at low_at (at_position (clock_in c.clocks) 0 k k c.program.nodes core.nodes node low nodes e at low_at)

module _ (c : ClockedProgram) (core : Core) (chosen : Text) (nodes : TiedNodes (clock_in c.clocks) 0 c.program.nodes core.nodes) (marked : Marks) (replies others : Replies)
    (agree : Agree c.program.nodes chosen replies others) where
  abbrev pub first : Setting
  first = w c core chosen nodes marked replies others agree

  abbrev pub second : Setting
  second = v c core chosen nodes marked replies others agree

  outputs_both : (low : Text) → TiedText (sides_of c core chosen) chosen low → (rows outs : List (List ℕ)) → Outputs first chosen rows outs ↔ Outputs second low rows outs
  outputs_both low j rows outs = (
    outputs_carried first second rows chosen low
        (λ y t u l. knows_there c core chosen nodes marked replies others agree rows _ _ (Value u) (variable (top refl j) the_body) l)
        (outputs_same (sides_of c core chosen) chosen low j) 0 rows outs,
    outputs_carried second first rows low chosen
        (λ y t u l. knows_back c core chosen nodes marked replies others agree rows _ _ (Value u) (variable (top refl j) the_body) l)
        (sym (outputs_same (sides_of c core chosen) chosen low j)) 0 rows outs,
  )

pub lowering_keeps_replied : LoweringKeepsReplied
lowering_keeps_replied c core marked replies others k node low rows outs range accepted h at low_at agree =
    let nodes = accepted_is_tied c core range accepted h in
    subst (λ (types : List TypeDec). Outputs (of_program c.program (clock_in c.clocks) marked replies) (Written k node) rows outs ↔ Outputs (record (of_core core marked others) { types = types }) (Lowered low) rows outs)
    (sym h.types)
    (outputs_both c core (Written k node) nodes marked replies others agree (Lowered low) (texts_at c core (Written k node) nodes k node low at low_at) rows outs)

-- no replies agree
pub no_agree : (nodes : List Node) (chosen : Text) → Agree nodes chosen no_replies no_replies
no_agree nodes chosen places numbers i path = refl

pub lowering_keeps_outputs : LoweringKeepsOutputs
lowering_keeps_outputs c core marked k node low rows outs range accepted h at low_at =
    lowering_keeps_replied c core marked no_replies no_replies k node low rows outs range accepted h at low_at (no_agree c.program.nodes (Written k node))
