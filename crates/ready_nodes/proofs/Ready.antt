-- The variables that clocks and merges of a node name are firm, and its merges are covered.
use Rattle.std.proofs.Common.{◌≡◌, ℕ, ◌<◌, Bool, List, [], ◌∷◌, map, length, refl, sym, subst, ap, ◌∙◌, suc, Option, Some, None}
use Rattle.std.specs.Prelude.{All, Contains, option_map, slice_get, ◌==◌}
use Rattle.std.specs.List.{find, flat_map}
use Rattle.std.proofs.lemmas.List.Elements.{All-append, All-cons, All-map, All-nil, All-weaker}
use Rattle.hept_ast.specs.Texts.{Name, tag_value}
use Rattle.hept_ast.specs.Scopes.{Lowered, Scope, Under}
use Rattle.hept_ast.specs.Parts.{below, inside}
use Rattle.hept_ast.specs.Meaning.{Value, Variable}
use Rattle.hept_ast.specs.declared.tree.CoreEquation.{CoreEquation}
use Rattle.hept_ast.specs.declared.tree.Expr.{Expr}
use Rattle.hept_ast.specs.declared.tree.MergeBranch.{MergeBranch}
use Rattle.hept_ast.specs.declared.tree.Ty.{Ty}
use Rattle.hept_ast.specs.declared.tree.Form.{Form, out-Form}
use Rattle.hept_ast.specs.declared.tree.Form.TheOpen.{Form-F}
use Rattle.call_depths.specs.Depths.{EndsWithin}
use Rattle.call_depths.proofs.Bounded.{calls_are_bounded}
use Rattle.core_fitting.specs.Sound.{IsCall, SoundCall, SoundNode, SoundRight, Within, async, is_call, one_name, results_of, sync, within}
use Rattle.core_fitting.specs.Holding.{IsBody, IsCallPath, IsKnown, Run, chosen_body, setting_of}
use Rattle.core_fitting.specs.Laws.{IsFirm as Firm_in, IsFitRun}
use Rattle.core_fitting.proofs.Needs.{clocks_are_firm, merges_are_covered}
use Rattle.core_fitting.proofs.Presence.{alike}
use Rattle.core_fitting.proofs.StaticSound.{all_by, as_contains, static_fits, static_is_sound}
use Rattle.step_plans.specs.Instants.{HasNoReply, IsCovered, IsFirm}
use Rattle.step_plans.specs.Memories.{rows_of}
use Rattle.step_plans.specs.Plans.{Covering, Covers, Tests, top_of}
use Rattle.plan_equations.specs.Grounds.{bodies_of, calls_in, clock_names, covered_in, merge_of, merged_name, right_scope, tested_in}
use Rattle.ready_nodes.specs.Ready.{NodesAreReady}
use Rattle.ready_nodes.proofs.Elements.{all_each, all_flat, at_each, found_in}
use Rattle.ready_nodes.proofs.Expanded.{all_bodies}
use Rattle.ready_nodes.proofs.Inner.{IsSoundPart, call_below, sound_inside}
use Rattle.ready_nodes.proofs.Unanswered.{unanswered}

-- ---- one instant

all_merged : (P : Name → Type 0) (v : Form-F Form Expr MergeBranch) → ((x : Name) (bs : List MergeBranch) → v ≡ Form-F.Merge x bs → P x) → All P (merged_name v)
all_merged P (Form-F.Const k) h = All-nil P
all_merged P (Form-F.Var x) h = All-nil P
all_merged P (Form-F.Last x) h = All-nil P
all_merged P (Form-F.Unary op a) h = All-nil P
all_merged P (Form-F.Binary op a b) h = All-nil P
all_merged P (Form-F.If i a b) h = All-nil P
all_merged P (Form-F.Fby a b) h = All-nil P
all_merged P (Form-F.Pre a) h = All-nil P
all_merged P (Form-F.Arrow a b) h = All-nil P
all_merged P (Form-F.When a tag x) h = All-nil P
all_merged P (Form-F.Merge x bs) h = All-cons P x [] (h x bs refl) (All-nil P)
all_merged P (Form-F.Call f args) h = All-nil P
all_merged P (Form-F.AsyncCall q f args) h = All-nil P
all_merged P (Form-F.AsyncConst k) h = All-nil P
all_merged P (Form-F.Get a) h = All-nil P

all_merges : (P : Covering → Type 0) (s : Scope) (v : Form-F Form Expr MergeBranch) → ((x : Name) (bs : List MergeBranch) → v ≡ Form-F.Merge x bs → P (Covers x s bs)) → All P (merge_of s v)
all_merges P s (Form-F.Const k) h = All-nil P
all_merges P s (Form-F.Var x) h = All-nil P
all_merges P s (Form-F.Last x) h = All-nil P
all_merges P s (Form-F.Unary op a) h = All-nil P
all_merges P s (Form-F.Binary op a b) h = All-nil P
all_merges P s (Form-F.If i a b) h = All-nil P
all_merges P s (Form-F.Fby a b) h = All-nil P
all_merges P s (Form-F.Pre a) h = All-nil P
all_merges P s (Form-F.Arrow a b) h = All-nil P
all_merges P s (Form-F.When a tag x) h = All-nil P
all_merges P s (Form-F.Merge x bs) h = All-cons P (Covers x s bs) [] (h x bs refl) (All-nil P)
all_merges P s (Form-F.Call f args) h = All-nil P
all_merges P s (Form-F.AsyncCall q f args) h = All-nil P
all_merges P s (Form-F.AsyncConst k) h = All-nil P
all_merges P s (Form-F.Get a) h = All-nil P

module _ (r : Run) (chosen : Within) (fit : IsFitRun r chosen) (t : ℕ) (before : t < length r.rows) (k : Within) (b : Scope) (body : IsBody r chosen k b) (sound : SoundNode r.core k) where
  abbrev Firm : Name → Type 0
  Firm x = IsFirm (setting_of r) r.rows t (Tests k.node x b)

  abbrev Covered : Covering → Type 0
  Covered c = IsCovered (setting_of r) r.rows t c

  as_firm : (x : Name) → Firm_in r k b t x → Firm x
  as_firm x h a known now = let v = h a known now in (v.0, v.2)

  -- where it is a merge, its variable has a value, and each value a branch
  abbrev Merges : Expr → Type 0
  Merges a = (x : Name) (bs : List MergeBranch) → out-Form a.form ≡ Form-F.Merge x bs →
      Firm_in r k b t x × ((v : ℕ) → IsKnown r (Variable x b t) (Value v) → (d : MergeBranch) × (find (λ m. tag_value r.core.types m.tag == v) bs ≡ Some d))

  module _ (e : CoreEquation) (there : Contains k.node.equations e) where
    sound_merges : (a : Expr) → IsSoundPart r.core k e.resets a → Merges a
    sound_merges a part x bs is = merges_are_covered r chosen fit k b body t before e.resets a part.clock part.type part.lists x bs part.sound is

    call_merges : (f : Name) (args : List Expr) (future : Bool) → IsCall e.right f args future → Merges e.right
    call_merges f args _ (sync eq) x bs is = absurd (let clash : Form-F.Call f args ≡ Form-F.Merge x bs = sym eq ∙ is in cc)
    call_merges f args _ (async {q = q} eq) x bs is = absurd (let clash : Form-F.AsyncCall q f args ≡ Form-F.Merge x bs = sym eq ∙ is in cc)

    of_call : (ts : List Ty) → SoundCall r.core k e.resets e.right e.clock.steps ts → Merges e.right
    of_call _ (is_call {f = f} {args = args} {future = future} call named leads stands fits same) = call_merges f args future call

    right_merges : SoundRight r.core k e → All Merges (inside e.right)
    right_merges (one_name {d = d} {n = n} left sees fits allows) =
        All-weaker (IsSoundPart r.core k e.resets) Merges sound_merges (inside e.right) (sound_inside r.core k e.resets e.right e.clock.steps d.ty n fits)
    right_merges (results_of {ts = ts} many call left) =
        All-cons Merges e.right (below e.right.form) (of_call ts call)
        (All-weaker (IsSoundPart r.core k e.resets) Merges sound_merges (below e.right.form) (call_below r.core k e.resets e.right e.clock.steps ts call))

    parts : All Merges (inside e.right)
    parts = right_merges (sound.equations e there).right

    names_firm : All Firm (clock_names e)
    names_firm =
        All-append Firm (map (λ p. p.name) e.clock.steps) (flat_map (λ a. merged_name (out-Form a.form)) (inside e.right))
        (All-map Firm (λ p. p.name) e.clock.steps (all_by (λ p. Firm p.name) e.clock.steps
        (λ p i. as_firm p.name (clocks_are_firm r chosen fit k b body t before e p there (as_contains p e.clock.steps i)))))
        (all_flat Firm (λ a. merged_name (out-Form a.form)) (inside e.right)
        (All-weaker Merges (λ a. All Firm (merged_name (out-Form a.form))) (λ a part. all_merged Firm (out-Form a.form) (λ x bs is. as_firm x (part x bs is).0)) (inside e.right) parts))

    -- a variable under resets is the same
    covers : (a : Expr) → Merges a → All Covered (merge_of (right_scope b e) (out-Form a.form))
    covers a part = all_merges Covered (right_scope b e) (out-Form a.form)
        (λ x bs is u known. (part x bs is).1 u (alike r (Variable x (Under b e.resets) t) (Variable x b t) (Value u) refl known))

    all_covered : All Covered (flat_map (λ a. merge_of (right_scope b e) (out-Form a.form)) (inside e.right))
    all_covered = all_flat Covered (λ a. merge_of (right_scope b e) (out-Form a.form)) (inside e.right)
        (All-weaker Merges (λ a. All Covered (merge_of (right_scope b e) (out-Form a.form))) covers (inside e.right) parts)

  pub tested_firm : All (IsFirm (setting_of r) r.rows t) (tested_in (record { node = k.node; scope = b }))
  tested_firm = All-map (IsFirm (setting_of r) r.rows t) (λ x. Tests k.node x b) (flat_map clock_names k.node.equations)
      (all_flat Firm clock_names k.node.equations (all_by (λ e. All Firm (clock_names e)) k.node.equations (λ e i. names_firm e (as_contains e k.node.equations i))))

  pub merges_covered : All Covered (covered_in (record { node = k.node; scope = b }))
  merges_covered = all_flat Covered (λ e. flat_map (λ a. merge_of (right_scope b e) (out-Form a.form)) (inside e.right)) k.node.equations
      (all_by (λ e. All Covered (flat_map (λ a. merge_of (right_scope b e) (out-Form a.form)) (inside e.right))) k.node.equations (λ e i. all_covered e (as_contains e k.node.equations i)))

-- ---- nodes

nothing_at : {A P : Type 0} (n : ℕ) (x : A) → slice_get [] n ≡ Some x → P
nothing_at n x h = cc

as_many : (calls : List (Bool × List ℕ)) → length (rows_of calls) ≡ length calls
as_many [] = refl
as_many (c ∷ calls) = ap suc (as_many calls)

none_some : {P : Type 0} (o : Option (List ℕ)) (outs : List ℕ) → o ≡ None → o ≡ Some outs → P
none_some o outs none some = absurd (let clash : None ≡ Some outs = sym none ∙ some in cc)

pub nodes_are_ready : NodesAreReady
nodes_are_ready core f node calls ordered static named quiet rows marked replies t suits before = record {
  firm = found_in (IsFirm (setting_of r) r.rows t) (flat_map tested_in (bodies_of core node))
      (all_flat (IsFirm (setting_of r) r.rows t) tested_in (bodies_of core node)
      (all_bodies r k fit.1 (λ body. All (IsFirm (setting_of r) r.rows t) (tested_in body)) (tested_firm r k fit.1 t now) (length core.nodes) k (top_of node) chosen_body fit.1.node));
  covered = found_in (IsCovered (setting_of r) r.rows t) (flat_map covered_in (bodies_of core node))
      (all_flat (IsCovered (setting_of r) r.rows t) covered_in (bodies_of core node)
      (all_bodies r k fit.1 (λ body. All (IsCovered (setting_of r) r.rows t) (covered_in body)) (merges_covered r k fit.1 t now) (length core.nodes) k (top_of node) chosen_body fit.1.node));
  arguments = λ n site at. nothing_at n site at;
}
  where
    r : Run
    r = record { core = core; marked = marked; replies = replies; rows = rows_of calls }

    depth : EndsWithin core (length core.nodes) node
    depth = calls_are_bounded core ordered.well_formed f node (ap (option_map Lowered) named)

    silent : All (λ body. All (HasNoReply (setting_of r)) (calls_in body)) (bodies_of core node)
    silent = all_each (HasNoReply (setting_of r)) calls_in (bodies_of core node) (at_each (HasNoReply (setting_of r)) (flat_map calls_in (bodies_of core node)) suits.no_reply)

    no_answer : (path : List ℕ) (ts : List Ty) → IsCallPath core node path ts → (n : ℕ) → replies path n ≡ None
    no_answer path ts is n = unanswered (setting_of r) core ordered.normal (static_is_sound core ordered.well_formed static) quiet node path ts is f named (length core.nodes) depth (top_of node) silent n

    fit : (g : _) × IsFitRun r (within f node g)
    fit = static_fits r f node ordered static named rows (λ path ts n outs is reply. none_some (replies path n) outs (no_answer path ts is n) reply)

    k : Within
    k = within f node fit.0

    now : t < length r.rows
    now = subst (λ (n : ℕ). t < n) (sym (as_many calls)) before
