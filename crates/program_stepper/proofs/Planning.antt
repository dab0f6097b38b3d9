-- The plan of a node, from the node of the core that was made of it.
use Rattle.std.proofs.Common.{◌≡◌, ℕ, zero, suc, ◌<◌, Bool, true, false, true≢false, List, [], ◌∷◌, length, map, All, Some, refl, sym, ap, ◌∙◌, subst, arith}
use Rattle.std.specs.Prelude.{slice_get, get_or, IsTrue, ◌||◌, if◌then◌else◌}
use Rattle.std.specs.List.{find}
use Rattle.std.proofs.lemmas.List.Elements.{All-weaker}
use Rattle.std.proofs.lemmas.Option.{get_or_from_slice_get, slice_get_within}
use Rattle.hept_ast.specs.Stages.{ClockedProgram}
use Rattle.hept_ast.specs.declared.tree.Core.{Core}
use Rattle.hept_ast.specs.declared.tree.CoreNode.{CoreNode}
use Rattle.hept_ast.specs.declared.tree.Node.{Node}
use Rattle.hept_ast.specs.declared.tree.TypeDec.{TypeDec}
use Rattle.core_making.specs.Made.{MeansNode, MeansProgram}
use Rattle.plan_equations.specs.Grounds.{ground_of}
use Rattle.plan_bodies.specs.Buildable.{IsBuildable}
use Rattle.step_plans.specs.Plans.{IsPlanOf}
use Rattle.step_plans.specs.declared.plan.NodePlan.{NodePlan}
use Rattle.core_making.specs.Made.{names_of_nodes}
use Rattle.core_facts.specs.Static.{StaticCore}
use Rattle.flat_cores.specs.Flat.{IsFlatCore, IsFlatEquation}
use Rattle.hept_ast.specs.Parts.{inside}
use Rattle.hept_ast.specs.Texts.{Name, is_in, same}
use Rattle.hept_ast.specs.TypedValues.{RowFits, RowsFit}
use Rattle.hept_ast.specs.declared.tree.Decl.{Decl}
use Rattle.hept_ast.specs.declared.tree.Expr.{Expr}
use Rattle.hept_ast.specs.declared.tree.MergeBranch.{MergeBranch}
use Rattle.hept_ast.specs.declared.tree.Form.{Form, out-Form}
use Rattle.hept_ast.specs.declared.tree.Form.TheOpen.{Form-F}
use Rattle.lowering_rules.specs.Lowering.{without_initial}
use Rattle.node_memory.specs.Standing.{no_calls}
use Rattle.ready_nodes.specs.Ready.{IsNoAsyncCall, MakesNoAsyncCall, NodesAreReady}
use Rattle.schedule.specs.Order.{IsOrdered}
use Rattle.served_programs.specs.Served.{is_served_form}
use Rattle.sound_expressions.specs.Demands.{NamesDiffer}
use Rattle.sound_expressions.proofs.Lists.{same_self, same_is}
use Rattle.step_plans.specs.Memories.{IsReady, rows_of}
use Rattle.program_stepper.specs.Stepping.{IsPlanFor, unmarked}
use Rattle.program_stepper.proofs.Calls.{rows_unmarked}

pub some_at : {X : Type 0} (xs : List X) (k : ℕ) → k < length xs → (x : X) × (slice_get xs k ≡ Some x)
some_at [] k lt = absurd (omega arith)
some_at (x ∷ xs) zero lt = (x, refl)
some_at (x ∷ xs) (suc k) lt = some_at xs k (omega arith)

-- the node of the core at the position of a node
pub made_at : (c : ClockedProgram) (core : Core) (k : ℕ) → MeansProgram c core → k < length c.program.nodes → (node : Node) × MeansNode c core k node
made_at c core k means lt =
    let (node, at) = some_at c.program.nodes k lt in
    (node, means k node at)

pub index_is : (core seen : Core) (nodes : List CoreNode) (k : ℕ) (low node : CoreNode) → seen ≡ core → nodes ≡ seen.nodes → slice_get core.nodes k ≡ Some low → node ≡ get_or nodes k node → node ≡ low
index_is core seen nodes k low node same read at is =
    is ∙ ap (λ (ns : List CoreNode). get_or ns k node) (read ∙ ap (λ (d : Core). d.nodes) same) ∙ get_or_from_slice_get core.nodes k low node at

pub index_within : (core seen : Core) (nodes : List CoreNode) (k : ℕ) (low : CoreNode) → seen ≡ core → nodes ≡ seen.nodes → slice_get core.nodes k ≡ Some low → k < length nodes
index_within core seen nodes k low same read at =
    subst (λ (ns : List CoreNode). k < length ns) (sym (read ∙ ap (λ (d : Core). d.nodes) same)) (slice_get_within core.nodes k low at)

-- the node of the core that was read can be built
pub buildable_as : (core seen : Core) (low node : CoreNode) → seen ≡ core → node ≡ low → IsBuildable core (length core.nodes) low → IsBuildable seen (length seen.nodes) node
buildable_as core seen low node e f h = subst (λ (d : Core). IsBuildable d (length d.nodes) node) (sym e) (subst (λ (n : CoreNode). IsBuildable core (length core.nodes) n) (sym f) h)

-- ---- a call on rows that fit

among : (nodes : List CoreNode) (k : ℕ) (node : CoreNode) → slice_get nodes k ≡ Some node → is_in node.name (names_of_nodes nodes) ≡ true
among [] k node at = absurd (cc)
among (n ∷ nodes) zero node at =
    let e : n ≡ node = cc in
    ap (λ (m : CoreNode). same node.name m.name || is_in node.name (names_of_nodes nodes)) e ∙ ap (λ (b : Bool). b || is_in node.name (names_of_nodes nodes)) (same_self node.name)
among (n ∷ nodes) (suc k) node at = later (same node.name n.name) (among nodes k node at)
  where
    later : (b : Bool) → is_in node.name (names_of_nodes nodes) ≡ true → (b || is_in node.name (names_of_nodes nodes)) ≡ true
    later true h = refl
    later false h = h

-- a node is found by its name where names differ
pub found_at : (nodes : List CoreNode) (k : ℕ) (node : CoreNode) → NamesDiffer (names_of_nodes nodes) → slice_get nodes k ≡ Some node → find (λ n. same node.name n.name) nodes ≡ Some node
found_at [] k node differ at = absurd (cc)
found_at (n ∷ nodes) zero node differ at =
    let e : n ≡ node = cc in
    here (same node.name n.name) (ap (λ (m : CoreNode). same node.name m.name) e ∙ same_self node.name) e
  where
    here : (b : Bool) → b ≡ true → n ≡ node → (if b then Some n else find (λ m. same node.name m.name) nodes) ≡ Some node
    here true t e = ap Some e
    here false t e = absurd (cc)
found_at (n ∷ nodes) (suc k) node differ at = by (found_at nodes k node differ.1 at) (same node.name n.name) refl
  where
    by : find (λ m. same node.name m.name) nodes ≡ Some node → (b : Bool) → same node.name n.name ≡ b → (if b then Some n else find (λ m. same node.name m.name) nodes) ≡ Some node
    by rest true e =
        let known : is_in n.name (names_of_nodes nodes) ≡ true = subst (λ (x : Name). is_in x (names_of_nodes nodes) ≡ true) (same_is node.name n.name e) (among nodes k node at) in
        absurd (true≢false (sym known ∙ differ.0))
    by rest false e = rest

-- no async call stands in a flat core
no_async : (v : Form-F Form Expr MergeBranch) → IsTrue (is_served_form v) → IsNoAsyncCall v
no_async (Form-F.Const k) h = tt
no_async (Form-F.Var x) h = tt
no_async (Form-F.Last x) h = tt
no_async (Form-F.Unary op a) h = tt
no_async (Form-F.Binary op a b) h = tt
no_async (Form-F.If i a b) h = tt
no_async (Form-F.Fby a b) h = tt
no_async (Form-F.Pre a) h = tt
no_async (Form-F.Arrow a b) h = tt
no_async (Form-F.When a tag x) h = tt
no_async (Form-F.Merge x bs) h = tt
no_async (Form-F.Call f args) h = tt
no_async (Form-F.AsyncCall q f args) h = absurd (cc)
no_async (Form-F.AsyncConst k) h = tt
no_async (Form-F.Get a) h = tt

no_async_node : (node : CoreNode) → All IsFlatEquation node.equations → MakesNoAsyncCall node
no_async_node node flat =
    All-weaker IsFlatEquation (λ e. All (λ a. IsNoAsyncCall (out-Form a.form)) (inside e.right)) (λ e f. All-weaker (λ a. IsTrue (is_served_form (out-Form a.form))) (λ a. IsNoAsyncCall (out-Form a.form)) (λ a. no_async (out-Form a.form)) (inside e.right) f.forms) node.equations flat

flat_makes_no_async : (core : Core) → IsFlatCore core → All MakesNoAsyncCall core.nodes
flat_makes_no_async core flat = All-weaker (λ (n : CoreNode). All IsFlatEquation n.equations) MakesNoAsyncCall no_async_node core.nodes flat

-- without the initial constants a row fits as before
row_still_fits : (types : List TypeDec) (ds : List Decl) (row : List ℕ) → RowFits types ds row → RowFits types (map without_initial ds) row
row_still_fits types [] [] h = h
row_still_fits types [] (v ∷ vs) h = absurd h
row_still_fits types (d ∷ ds) [] h = absurd h
row_still_fits types (d ∷ ds) (v ∷ vs) h = (h.0, row_still_fits types ds vs h.1)

rows_still_fit : (types : List TypeDec) (ds : List Decl) (rows : List (List ℕ)) → RowsFit types ds rows → RowsFit types (map without_initial ds) rows
rows_still_fit types ds [] h = h
rows_still_fit types ds (row ∷ rows) h = (row_still_fits types ds row h.0, rows_still_fit types ds rows h.1)

abbrev pub ReadyOn : ClockedProgram → Core → Node → CoreNode → Type 0
ReadyOn c core node low = (rows : List (List ℕ)) → RowsFit c.program.types node.inputs rows → IsReady core (ground_of core low) [] no_calls (unmarked rows)

pub ready_on : NodesAreReady → (c : ClockedProgram) (core : Core) (k : ℕ) (node : Node) (low : CoreNode) → IsOrdered core → StaticCore core → IsFlatCore core → NamesDiffer (names_of_nodes core.nodes) → core.types ≡ c.program.types →
    slice_get core.nodes k ≡ Some low → low.inputs ≡ map without_initial node.inputs → ReadyOn c core node low
ready_on law c core k node low ordered facts flat differ types at takes rows fit =
    law core low.name low (unmarked rows) ordered facts (found_at core.nodes k low differ at) (flat_makes_no_async core flat)
    (subst (λ (ts : List TypeDec). RowsFit ts low.inputs (rows_of (unmarked rows))) (sym types)
    (subst (λ (ds : List Decl). RowsFit c.program.types ds (rows_of (unmarked rows))) (sym takes)
    (subst (λ (rs : List (List ℕ)). RowsFit c.program.types (map without_initial node.inputs) rs) (sym (rows_unmarked rows)) (rows_still_fit c.program.types node.inputs rows fit))))

pub planned : (c : ClockedProgram) (core seen : Core) (number : ℕ) (node : Node) (means : MeansNode c core number node) (built : CoreNode) (plan : NodePlan) → seen ≡ core → built ≡ means.low → IsPlanOf (ground_of seen built) [] built plan →
    ReadyOn c core node means.low → IsPlanFor c number node plan
planned c core seen number node means built plan same e h ready = record {
  core = core;
  means = means;
  is_plan = subst (λ (n : CoreNode). IsPlanOf (ground_of core n) [] n plan) e (subst (λ (d : Core). IsPlanOf (ground_of d built) [] built plan) same h);
  ready = ready;
}
