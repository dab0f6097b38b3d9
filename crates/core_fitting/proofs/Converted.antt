-- From what is sound as in a program to what is sound in a core, form by form.
use Rattle.std.proofs.Common.{◌≡◌, ℕ, Bool, true, false, ◌||◌, ◌&&◌, if◌then◌else◌, List, [], ◌∷◌, ◌++◌, map, length, refl, sym, ap, subst, ◌∙◌, arith, Some, None}
use Rattle.std.specs.Prelude.{All, Contains, ◌==◌}
use Rattle.std.specs.List.{flat_map, list_all}
use Rattle.std.proofs.lemmas.Bool.{false≢true}
use Rattle.std.proofs.lemmas.List.Elements.{All-head, All-tail}
use Rattle.hept_ast.specs.Texts.{Name, is_in, names, same}
use Rattle.hept_ast.specs.Scopes.{Clock}
use Rattle.hept_ast.specs.Parts.{below, declaration, inside}
use Rattle.hept_ast.specs.Initial.{grade}
use Rattle.hept_ast.specs.Faults.{calls_of, node_named}
use Rattle.hept_ast.specs.Types.{Fits as Of_types, Misfit, alike, async_fit, binary_fit, bool, call_fit, future_of, if_fit, same_types, types_of, unary_fit}
use Rattle.hept_ast.specs.declared.tree.Core.{Core}
use Rattle.hept_ast.specs.declared.tree.CoreNode.{CoreNode}
use Rattle.hept_ast.specs.declared.tree.Node.{Node}
use Rattle.hept_ast.specs.declared.tree.Decl.{Decl}
use Rattle.hept_ast.specs.declared.tree.Expr.{Expr}
use Rattle.hept_ast.specs.declared.tree.MergeBranch.{MergeBranch}
use Rattle.hept_ast.specs.declared.tree.Ty.{Ty}
use Rattle.hept_ast.specs.declared.tree.Ty.TheVariants as ty
use Rattle.hept_ast.specs.declared.tree.Form.{Form, out-Form, roll-Form}
use Rattle.hept_ast.specs.declared.tree.Form.TheOpen.{Form-F}
use Rattle.hept_ast.specs.declared.tree.Form.TheViews.{roll-out-Form}
use Rattle.hept_ast.specs.declared.tree.Form.TheVariants as form
use Rattle.hept_ast.proofs.FormsOf.{below-Unary, below-Binary, below-If, below-Fby, below-Pre, below-Arrow, below-When, below-Merge, below-Call, below-AsyncCall, below-Get}
use Rattle.core_rules.specs.Cores.{as_interface, as_node, core_clock, core_decls}
use Rattle.core_rules.specs.WellFormed.{CallsNode, IsNoLast}
use Rattle.sound_expressions.specs.Sound as program
use Rattle.sound_expressions.proofs.FittedTypes.{EachIs, alike_each, alike_one, alike_two, async_fits, binary_typed, BinaryTyped, both_true, fits_parts, get_fits, if_fits, types_is, unary_typed, UnaryTyped}
use Rattle.sound_expressions.proofs.Expressions.{all_left, all_right}
use Rattle.core_facts.specs.Undefined.{Grades}
use Rattle.core_fitting.specs.Sound.{IsCall, IsNamed, Reads, Sound, SoundArguments, SoundBranches, SoundCall, Within, a_branch, an_argument, async, expressions_in, is_arrow, is_async_constant, is_binary, is_call, is_constant, is_fby, is_get, is_if, is_merge, is_pre, is_result, is_unary, is_variable, is_when, no_arguments, no_branches, sync, within}
use Rattle.core_facts.specs.Static.{IsArrowWithin}
use Rattle.core_facts.specs.Undefined.{lists_of, may}
use Rattle.core_fitting.proofs.StandIn.{program_within, stand_in}
use Rattle.core_facts.proofs.Undefined.{lists_is, lists_view, none_of, none_var}

form_by : (f : Form) (v : Form-F Form Expr MergeBranch) → out-Form f ≡ v → f ≡ roll-Form v
form_by f v e = sym (roll-out-Form f) ∙ ap roll-Form e

below_by : (e : Expr) (v : Form-F Form Expr MergeBranch) (g : Form) (xs : List Expr) → out-Form e.form ≡ v → roll-Form v ≡ g → below g ≡ xs → below e.form ≡ xs
below_by e v g xs h k l = ap below (form_by e.form v h) ∙ ap below k ∙ l

head_is : (a b : Ty) → a ∷ [] ≡ b ∷ [] → a ≡ b
head_is a b e = cc

pub declared_in_names : (ds : List Decl) (x : Name) (d : Decl) → declaration ds x ≡ Some d → is_in x (names ds) ≡ true
declared_in_names [] x d e = no_some e
  where
    no_some : {P : Type 0} → None ≡ Some d → P
    no_some h = cc
declared_in_names (b ∷ ds) x d e = go (same x b.name) e (declared_in_names ds x d)
  where
    go : (c : Bool) → (if c then Some b else declaration ds x) ≡ Some d → (declaration ds x ≡ Some d → is_in x (names ds) ≡ true) → c || is_in x (names ds) ≡ true
    go true g later = refl
    go false g later = later g

-- types of arguments, one each
record OneEach (t : Ty) (ts : List Ty) (us : List Ty) (tss : List (List Ty)) : Type 0 where
  head : us ≡ t ∷ []
  tail : ts ≡ flat_map (λ t. t) tss

one_each : (t : Ty) (ts us : List Ty) (tss : List (List Ty)) → (length us == 1) ≡ true → t ∷ ts ≡ us ++ flat_map (λ t. t) tss → OneEach t ts us tss
one_each t ts [] tss one e = absurd (false≢true one)
one_each t ts (u ∷ []) tss one e = record { head = cc; tail = cc }
one_each t ts (u ∷ v ∷ us) tss one e = absurd (many us one)
  where
    many : (ws : List Ty) → (length (u ∷ v ∷ ws) == 1) ≡ true → ⊥
    many ws h = grind arith

one_type : true ≡ false → ⊥
one_type h = false≢true (sym h)

not_one : (ts : List Ty) (t : Ty) → ts ≡ t ∷ [] → (length ts == 1) ≡ false → ⊥
not_one ts t e h = false≢true (sym h ∙ ap (λ (l : List Ty). length l == 1) e)

alike_many : (tss : List (List Ty)) (ts : List Ty) → alike tss ≡ Of_types ts → (length ts == 1) ≡ false → ⊥
alike_many [] ts e h = no_fit e
  where
    no_fit : alike [] ≡ Of_types ts → ⊥
    no_fit g = cc
alike_many (us ∷ tss) ts e h =
    let p = fits_parts _ us ts e in
    let q = both_true (length us == 1) _ p.0 in
    false≢true (sym h ∙ (ap (λ (l : List Ty). length l == 1) (sym p.1) ∙ q.0))

if_alike : (tests us vs ts : List Ty) → if_fit (tests ∷ us ∷ vs ∷ []) ≡ Of_types ts → alike (us ∷ vs ∷ []) ≡ Of_types ts
if_alike tests us vs ts e = go (same_types bool tests) e
  where
    go : (b : Bool) → (if b then alike (us ∷ vs ∷ []) else Misfit) ≡ Of_types ts → alike (us ∷ vs ∷ []) ≡ Of_types ts
    go true h = h
    go false h = cc

module _ (core : Core) (node : CoreNode) (name : Name) (g : Grades) (rs : List Name)
    (named : (f : Name) (n : Node) → node_named (map as_interface core.nodes) f ≡ Some n → (h : CoreNode) × IsNamed core f h × (n ≡ as_interface h))
    (leads : (f : Name) → is_in f (calls_of (Some (stand_in node))) ≡ true → CallsNode (map as_node core.nodes) name f) where
  abbrev from : program.Within
  from = program_within core node (may g)

  abbrev to : Within
  to = within name node g

  abbrev Lists : Expr → List (List Name)
  Lists e = lists_of g rs e.form

  -- what is known of each expression inside
  pub record Inner (e : Expr) : Type 0 where
    pub arrow : IsArrowWithin g rs (out-Form e.form)
    pub stands : Contains (expressions_in node) e
    pub last : IsNoLast (out-Form e.form)

  abbrev pub AllInner : Expr → Type 0
  AllInner e = All Inner (inside e)

  inner_below : (e : Expr) (xs : List Expr) → AllInner e → below e.form ≡ xs → All Inner xs
  inner_below e xs all is = subst (All Inner) is (All-tail Inner e (below e.form) all)

  inner_here : (e : Expr) → AllInner e → Inner e
  inner_here e all = All-head Inner e (below e.form) all

  reads_as : (x : Name) (d : Decl) (c : Clock) → program.Sees from [] x d c → Reads to x d c
  reads_as x d c sees = record {
    declared = sees.declared;
    clock = sym (ap (λ (b : Bool). if b then core_clock node x else []) (declared_in_names (core_decls node) x d sees.declared)) ∙ sees.here;
  }

  changed : (e : Expr) (c : Clock) (y z : Ty) (n m : List (List Name)) → y ≡ z → n ≡ m → Sound core to rs e c y n → Sound core to rs e c z m
  changed e c y z n m i j h = subst (λ (l : List (List Name)). Sound core to rs e c z l) j (subst (λ (u : Ty). Sound core to rs e c u n) i h)

  -- with the lists of its form
  by_view : (e : Expr) (v : Form-F Form Expr MergeBranch) (c : Clock) (y z : Ty) → out-Form e.form ≡ v → y ≡ z → Sound core to rs e c y (lists_view g rs v) → Sound core to rs e c z (Lists e)
  by_view e v c y z eq is h = changed e c y z _ (Lists e) is (sym (lists_is g rs e.form v eq)) h

  defined : (e : Expr) (c : Clock) (y : Ty) → grade (may g) e.form ≡ false → Sound core to rs e c y (Lists e) → Sound core to rs e c y []
  defined e c y is h = changed e c y y (Lists e) [] refl (none_of g rs e is) h

  -- ---- calls

  abbrev Arguments : List Expr → Clock → List (List Ty) → Type 0
  Arguments args c tss = (ds : List Decl) → (types_of ds ≡ flat_map (λ t. t) tss) × (list_all (λ t. length t == 1) tss ≡ true) → SoundArguments core to rs args c ds

  any_call : (e : Expr) (c : Clock) (f : Name) (args : List Expr) (future : Bool) (n : Node) (tss : List (List Ty)) (us : List Ty) → IsCall e f args future → node_named (map as_interface core.nodes) f ≡ Some n →
      call_fit n tss ≡ Of_types us → is_in f (calls_of (Some (stand_in node))) ≡ true → Inner e → Arguments args c tss → (ts : List Ty) → (if future then map future_of us else us) ≡ ts → SoundCall core to rs e c ts
  any_call e c f args future n tss us call is_named fit called inner given ts is =
      let h = named f n is_named in
      let p = fits_parts (same_types (types_of n.inputs) (flat_map (λ t. t) tss) && list_all (λ t. length t == 1) tss) (types_of n.outputs) us fit in
      let q = both_true (same_types (types_of n.inputs) (flat_map (λ t. t) tss)) (list_all (λ t. length t == 1) tss) p.0 in
      let inputs : types_of h.0.inputs ≡ flat_map (λ t. t) tss = sym (ap (λ (m : Node). types_of m.inputs) h.2) ∙ types_is (types_of n.inputs) (flat_map (λ t. t) tss) q.0 in
      let outputs : types_of h.0.outputs ≡ us = sym (ap (λ (m : Node). types_of m.outputs) h.2) ∙ p.1 in
      is_call call h.1 (leads f called) inner.stands (given h.0.inputs (inputs, q.1)) (ap (λ (l : List Ty). if future then map future_of l else l) outputs ∙ is)

  sync_call : (e : Expr) (c : Clock) (f : Name) (args : List Expr) (n : Node) (tss : List (List Ty)) (us : List Ty) → out-Form e.form ≡ Form-F.Call f args → node_named (map as_interface core.nodes) f ≡ Some n →
      call_fit n tss ≡ Of_types us → is_in f (calls_of (Some (stand_in node))) ≡ true → Inner e → Arguments args c tss → (ts : List Ty) → us ≡ ts → SoundCall core to rs e c ts
  sync_call e c f args n tss us eq is_named fit called inner given ts is = any_call e c f args false n tss us (sync eq) is_named fit called inner given ts is

  async_call : (e : Expr) (c : Clock) (q : ℕ) (f : Name) (args : List Expr) (n : Node) (tss : List (List Ty)) (us : List Ty) → out-Form e.form ≡ Form-F.AsyncCall q f args → node_named (map as_interface core.nodes) f ≡ Some n →
      async_fit (call_fit n tss) ≡ Of_types us → is_in f (calls_of (Some (stand_in node))) ≡ true → Inner e → Arguments args c tss → (ts : List Ty) → us ≡ ts → SoundCall core to rs e c ts
  async_call e c q f args n tss us eq is_named fit called inner given ts is =
      let o = async_fits (call_fit n tss) us fit in
      any_call e c f args true n tss o.0 (async eq) is_named o.1 called inner given ts (sym o.2 ∙ is)

  no_types : {P : Type 0} {t : Ty} {ts : List Ty} → t ∷ ts ≡ [] → P
  no_types h = cc

  no_argument : {P : Type 0} (ts : List Ty) (tss : List (List Ty)) → ([] ≡ ts ++ flat_map (λ t. t) tss) × (((length ts == 1) && list_all (λ t. length t == 1) tss) ≡ true) → P
  no_argument [] tss h = absurd (false≢true h.1)
  no_argument (t ∷ ts) tss h = no_types (sym h.0)

  mutual
    pub converts : (e : Expr) (c : Clock) (ts : List Ty) → program.Sound from [] e c ts → AllInner e → (y : Ty) → ts ≡ y ∷ [] → Sound core to rs e c y (Lists e)
    converts e c _ (program.is_constant {v = v} {t = t} eq known fits) all y is = by_view e (Form-F.Const v) c (ty.Plain t) y eq (head_is _ _ is) (is_constant eq known fits)
    converts e c _ (program.is_async_constant {v = v} {t = t} eq known fits) all y is = by_view e (Form-F.AsyncConst v) c (ty.Future t) y eq (head_is _ _ is) (is_async_constant eq known fits)
    converts e c _ (program.is_variable {x = x} {d = d} eq sees) all y is = by_view e (Form-F.Var x) c d.ty y eq (head_is _ _ is) (is_variable eq (reads_as x d c sees))
    converts e c _ (program.is_last eq sees init) all y is = absurd (subst IsNoLast eq (inner_here e all).last)
    converts e c ts (program.is_unary {a = a} {op = op} {us = us} eq sound fit) all y is =
        let o : UnaryTyped core.types op us ts = unary_typed core.types op us ts fit in
        by_view e (Form-F.Unary op a) c y y eq refl
        (is_unary eq (converts a c us sound (inner_below e (inside a) all (below_by e _ _ _ eq (form.rolls-Unary op a) (below-Unary op a))) o.operand o.operands)
        (subst (λ (l : List Ty). unary_fit op (l ∷ []) ≡ Of_types (y ∷ [])) o.operands (subst (λ (l : List Ty). unary_fit op (us ∷ []) ≡ Of_types l) is fit)))
    converts e c ts (program.is_binary {a = a} {b = b} {op = op} {us = us} {vs = vs} eq left right fit nonzero) all y is =
        let o : BinaryTyped core.types op us vs ts = binary_typed core.types op us vs ts fit in
        let inner = inner_below e (inside a ++ inside b) all (below_by e _ _ _ eq (form.rolls-Binary op a b) (below-Binary op a b)) in
        by_view e (Form-F.Binary op a b) c y y eq refl
        (is_binary eq (converts a c us left (all_left Inner (inside a) (inside b) inner) o.left o.lefts) (converts b c vs right (all_right Inner (inside a) (inside b) inner) o.right o.rights)
        (subst (λ (l : List Ty). binary_fit op ((o.left ∷ []) ∷ l ∷ []) ≡ Of_types (y ∷ [])) o.rights
        (subst (λ (l : List Ty). binary_fit op (l ∷ vs ∷ []) ≡ Of_types (y ∷ [])) o.lefts (subst (λ (l : List Ty). binary_fit op (us ∷ vs ∷ []) ≡ Of_types l) is fit))))
    converts e c ts (program.is_if {i = i} {a = a} {b = b} {is = tests} {us = us} {vs = vs} eq test left right fit) all y is =
        let o = if_fits tests us vs ts fit in
        let inner = inner_below e (inside i ++ inside a ++ inside b) all (below_by e _ _ _ eq (form.rolls-If i a b) (below-If i a b)) in
        let front = all_left Inner (inside i ++ inside a) (inside b) inner in
        by_view e (Form-F.If i a b) c y y eq refl
        (is_if eq (converts i c tests test (all_left Inner (inside i) (inside a) front) _ o.0) (converts a c us left (all_right Inner (inside i) (inside a) front) y (o.1 ∙ is))
        (converts b c vs right (all_right Inner (inside i ++ inside a) (inside b) inner) y (o.2 ∙ is)))
    converts e c ts (program.is_fby {a = a} {b = b} {us = us} {vs = vs} eq left right fit never) all y is =
        let o = alike_two us vs ts fit in
        let inner = inner_below e (inside a ++ inside b) all (below_by e _ _ _ eq (form.rolls-Fby a b) (below-Fby a b)) in
        by_view e (Form-F.Fby a b) c y y eq refl
        (is_fby eq (converts a c us left (all_left Inner (inside a) (inside b) inner) y (o.0 ∙ is)) (defined b c y never (converts b c vs right (all_right Inner (inside a) (inside b) inner) y (o.1 ∙ is))))
    converts e c ts (program.is_pre {a = a} {us = us} eq sound fit never) all y is =
        by_view e (Form-F.Pre a) c y y eq refl
        (is_pre eq (defined a c y never (converts a c us sound (inner_below e (inside a) all (below_by e _ _ _ eq (form.rolls-Pre a) (below-Pre a))) y (alike_one us ts fit ∙ is))))
    converts e c ts (program.is_arrow {a = a} {b = b} {us = us} {vs = vs} eq left right fit) all y is =
        let o = alike_two us vs ts fit in
        let inner = inner_below e (inside a ++ inside b) all (below_by e _ _ _ eq (form.rolls-Arrow a b) (below-Arrow a b)) in
        by_view e (Form-F.Arrow a b) c y y eq refl
        (is_arrow eq (converts a c us left (all_left Inner (inside a) (inside b) inner) y (o.0 ∙ is)) (converts b c vs right (all_right Inner (inside a) (inside b) inner) y (o.1 ∙ is))
        (subst (IsArrowWithin g rs) eq (inner_here e all).arrow))
    converts e _ ts (program.is_when {a = a} {c = c} {tag = tag} {x = x} {d = d} {us = us} eq sees sound tagged has fit never) all y is =
        by_view e (Form-F.When a tag x) (c ++ record { tag = tag; name = x } ∷ []) y y eq refl
        (is_when eq (reads_as x d c sees) (none_var g rs x never) (converts a c us sound (inner_below e (inside a) all (below_by e _ _ _ eq (form.rolls-When a tag x) (below-When a tag x))) y (alike_one us ts fit ∙ is)))
    converts e c ts (program.is_merge {x = x} {d = d} {bs = bs} {tss = tss} eq sees has never sound every fit) all y is =
        by_view e (Form-F.Merge x bs) c y y eq refl
        (is_merge eq (reads_as x d c sees) (none_var g rs x never) has every
        (branches x d.ty c bs tss sound (inner_below e (flat_map (λ b. inside b.value) bs) all (below_by e _ _ _ eq (form.rolls-Merge x bs) (below-Merge x bs))) y
        (subst (λ (l : List Ty). EachIs l tss) is (alike_each tss ts fit))))
    converts e c ts (program.is_call {f = f} {args = args} {g = n} {tss = tss} eq is_named sound fit free called) all y is =
        by_view e (Form-F.Call f args) c y y eq refl
        (is_result (sync_call e c f args n tss ts eq is_named fit called (inner_here e all)
        (λ h same. arguments args c tss sound (inner_below e (flat_map inside args) all (below_by e _ _ _ eq (form.rolls-Call f args) (below-Call f args))) h same) (y ∷ []) is))
    converts e c ts (program.is_async_call {q = q} {f = f} {args = args} {g = n} {tss = tss} eq is_named sound fit free called) all y is =
        by_view e (Form-F.AsyncCall q f args) c y y eq refl
        (is_result (async_call e c q f args n tss ts eq is_named fit called (inner_here e all)
        (λ h same. arguments args c tss sound (inner_below e (flat_map inside args) all (below_by e _ _ _ eq (form.rolls-AsyncCall q f args) (below-AsyncCall q f args))) h same) (y ∷ []) is))
    converts e c ts (program.is_get {a = a} {us = us} eq sound fit) all y is =
        let o = get_fits us ts fit in
        by_view e (Form-F.Get a) c (ty.Plain o.0) y eq (head_is _ _ (sym o.2 ∙ is))
        (is_get eq (converts a c us sound (inner_below e (inside a) all (below_by e _ _ _ eq (form.rolls-Get a) (below-Get a))) (ty.Future o.0) o.1))

    pub arguments : (es : List Expr) (c : Clock) (tss : List (List Ty)) → program.SoundArguments from [] es c tss → All Inner (flat_map inside es) → (ds : List Decl) →
        (types_of ds ≡ flat_map (λ t. t) tss) × (list_all (λ t. length t == 1) tss ≡ true) → SoundArguments core to rs es c ds
    arguments _ c _ program.no_arguments all [] same = no_arguments
    arguments _ c _ program.no_arguments all (d ∷ ds) same = no_types same.0
    arguments _ c _ (program.an_argument {e = e} {es = es} {ts = ts} {tss = tss} sound never rest) all [] same = no_argument ts tss same
    arguments _ c _ (program.an_argument {e = e} {es = es} {ts = ts} {tss = tss} sound never rest) all (d ∷ ds) same =
        let p = both_true (length ts == 1) (list_all (λ t. length t == 1) tss) same.1 in
        let o = one_each d.ty (types_of ds) ts tss p.0 same.0 in
        an_argument (defined e c d.ty never (converts e c ts sound (all_left Inner (inside e) (flat_map inside es) all) d.ty o.head))
        (arguments es c tss rest (all_right Inner (inside e) (flat_map inside es) all) ds (o.tail, p.1))

    pub branches : (x : Name) (t : Ty) (c : Clock) (bs : List MergeBranch) (tss : List (List Ty)) → program.SoundBranches from [] x t c bs tss → All Inner (flat_map (λ b. inside b.value) bs) → (y : Ty) → EachIs (y ∷ []) tss →
        SoundBranches core to rs x c bs y
    branches x t c _ _ program.no_branches all y each = no_branches
    branches x t c _ _ (program.a_branch {b = b} {bs = bs} {ts = ts} {tss = tss} tagged sound never rest) all y each =
        a_branch (defined b.value (c ++ record { tag = b.tag; name = x } ∷ []) y never (converts b.value (c ++ record { tag = b.tag; name = x } ∷ []) ts sound (all_left Inner (inside b.value) (flat_map (λ b. inside b.value) bs) all) y each.0))
        (branches x t c bs tss rest (all_right Inner (inside b.value) (flat_map (λ b. inside b.value) bs) all) y each.1)

  -- a call, with all that it gives
  pub call_converts : (e : Expr) (c : Clock) (ts : List Ty) → program.Sound from [] e c ts → AllInner e → (length ts == 1) ≡ false → SoundCall core to rs e c ts
  call_converts e c _ (program.is_constant eq known fits) all many = absurd (one_type many)
  call_converts e c _ (program.is_async_constant eq known fits) all many = absurd (one_type many)
  call_converts e c _ (program.is_variable eq sees) all many = absurd (one_type many)
  call_converts e c _ (program.is_last eq sees init) all many = absurd (one_type many)
  call_converts e c ts (program.is_unary {op = op} {us = us} eq sound fit) all many = absurd (not_one ts _ (unary_typed core.types op us ts fit).results many)
  call_converts e c ts (program.is_binary {op = op} {us = us} {vs = vs} eq left right fit nonzero) all many = absurd (not_one ts _ (binary_typed core.types op us vs ts fit).results many)
  call_converts e c ts (program.is_if {is = tests} {us = us} {vs = vs} eq test left right fit) all many = absurd (alike_many (us ∷ vs ∷ []) ts (if_alike tests us vs ts fit) many)
  call_converts e c ts (program.is_fby {us = us} {vs = vs} eq left right fit never) all many = absurd (alike_many (us ∷ vs ∷ []) ts fit many)
  call_converts e c ts (program.is_pre {us = us} eq sound fit never) all many = absurd (alike_many (us ∷ []) ts fit many)
  call_converts e c ts (program.is_arrow {us = us} {vs = vs} eq left right fit) all many = absurd (alike_many (us ∷ vs ∷ []) ts fit many)
  call_converts e _ ts (program.is_when {us = us} eq sees sound tagged has fit never) all many = absurd (alike_many (us ∷ []) ts fit many)
  call_converts e c ts (program.is_merge {tss = tss} eq sees has never sound every fit) all many = absurd (alike_many tss ts fit many)
  call_converts e c ts (program.is_call {f = f} {args = args} {g = n} {tss = tss} eq is_named sound fit free called) all many =
      sync_call e c f args n tss ts eq is_named fit called (inner_here e all)
      (λ h same. arguments args c tss sound (inner_below e (flat_map inside args) all (below_by e _ _ _ eq (form.rolls-Call f args) (below-Call f args))) h same) ts refl
  call_converts e c ts (program.is_async_call {q = q} {f = f} {args = args} {g = n} {tss = tss} eq is_named sound fit free called) all many =
      async_call e c q f args n tss ts eq is_named fit called (inner_here e all)
      (λ h same. arguments args c tss sound (inner_below e (flat_map inside args) all (below_by e _ _ _ eq (form.rolls-AsyncCall q f args) (below-AsyncCall q f args))) h same) ts refl
  call_converts e c ts (program.is_get {us = us} eq sound fit) all many = let o = get_fits us ts fit in absurd (not_one ts _ o.2 many)
