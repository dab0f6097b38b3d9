-- In a program without faults each call names a node from which no calls lead back.
use Rattle.std.proofs.Common.{◌≡◌, ℕ, Bool, true, false, not, ◌&&◌, List, [], ◌∷◌, ◌++◌, sym, ap, subst, ◌∙◌, refl, map, append_assoc, Option, Some, None, All}
use Rattle.std.specs.List.{flat_map, list_any}
use Rattle.std.specs.Option.{option_map_or}
use Rattle.std.proofs.lemmas.Grind.{flat_map-append}
use Rattle.std.proofs.lemmas.List.Elements.{All-nil, All-cons, All-head, All-tail, All-append, All-weaker}
use Rattle.hept_ast.specs.Texts.{Name}
use Rattle.hept_ast.specs.Parts.{Part, Block, Plain, Switch, Reset, Automaton, Transition, Placed, below, expressions_of, inside, parts}
use Rattle.hept_ast.specs.Types.{Fit, Untyped, alike, async_fit, binary_fit, call_fit, divides, get_fit, if_fit, same_tag, unary_fit}
use Rattle.hept_ast.specs.Faults.{Duplicate, Fault, Judged, Judging, Mismatch, NestedAsync, Recursive, UnknownName, ZeroDivisor, barred, both, branch_fit, call_judged, called, calls_lead, calls_of, can_branch, demanded, fault, fits_left, is_bool, is_nonzero, judge_expr, judged, judging, lack_faults, left_types, merge_fit, nested, node_faults, node_named, part_faults, read_faults, type_of_variable, unknown_tag, when_fit}
use Rattle.hept_ast.specs.declared.name.Place.{Place}
use Rattle.hept_ast.specs.declared.tree.BinaryOp.{BinaryOp}
use Rattle.hept_ast.specs.declared.tree.UnaryOp.{UnaryOp}
use Rattle.hept_ast.specs.declared.tree.Expr.{Expr}
use Rattle.hept_ast.specs.declared.tree.MergeBranch.{MergeBranch}
use Rattle.hept_ast.specs.declared.tree.Node.{Node}
use Rattle.hept_ast.specs.declared.tree.Program.{Program}
use Rattle.hept_ast.specs.declared.tree.Tag.{Tag}
use Rattle.hept_ast.specs.declared.tree.Ty.{Ty}
use Rattle.hept_ast.specs.declared.tree.Form.{Form, roll-Form}
use Rattle.hept_ast.specs.declared.tree.Form.TheOpen.{Form-F}
use Rattle.hept_ast.specs.declared.tree.Form.TheVariants as form
use Rattle.hept_ast.proofs.FormsOf.{below-Const, below-Var, below-Last, below-Unary, below-Binary, below-If, below-Fby, below-Pre, below-Arrow, below-When, below-Merge, below-Call, below-AsyncCall, below-AsyncConst, below-Get}
use Rattle.hept_ast.proofs.CalledForms.{called-Const, called-Var, called-Last, called-Unary, called-Binary, called-If, called-Fby, called-Pre, called-Arrow, called-When, called-Merge, called-Call, called-AsyncCall, called-AsyncConst, called-Get}
use Rattle.hept_ast.proofs.JudgeOf.{judge_of, one, row, branch_row, judge-Unary, judge-Binary, judge-If, judge-Fby, judge-Pre, judge-Arrow, judge-When, judge-Merge, judge-Call, judge-AsyncCall, judge-Get}
use Rattle.sound_expressions.proofs.Lists.{not_nil, nil_left, nil_right, no_fault, none_of_each}
use Rattle.sound_expressions.proofs.Forms.{EachOf, EachValue, EachOperand, by_operands}
use Rattle.sound_expressions.proofs.Judged.{clean, one_faults}

abbrev calls_at : Expr → List Name
calls_at e = called e.form

-- the node that is called is there, and leads to none that calls it
abbrev pub NotBack : List Node → Node → Name → Type 0
NotBack nodes node f = (g : Node) × (node_named nodes f ≡ Some g) × (calls_lead nodes g.name node.name ≡ false)

module _ (w : Judging) where
  abbrev P : Name → Type 0
  P f = NotBack w.nodes w.node f

  none : All P []
  none = All-nil P

  two : (xs ys : List Expr) → All P (flat_map calls_at xs) → All P (flat_map calls_at ys) → All P (flat_map calls_at (xs ++ ys))
  two xs ys h r = subst (All P) (sym (flat_map-append calls_at xs ys)) (All-append P (flat_map calls_at xs) (flat_map calls_at ys) h r)

  -- where nothing is wrong with an expression, the calls in it are such
  abbrev CallsWell : Expr → Type 0
  CallsWell e = (under : Bool) → (judge_of w under e).faults ≡ [] → All P (flat_map calls_at (inside e))

  of_parts : (p : Place) (f : Form) (xs : List Name) (es : List Expr) → called f ≡ xs → below f ≡ es → All P xs → All P (flat_map calls_at es) → All P (flat_map calls_at (inside (record { place = p; form = f })))
  of_parts p f xs es c b h r =
      All-append P (called f) (flat_map calls_at (below f)) (subst (All P) (sym c) h) (subst (λ (z : List Expr). All P (flat_map calls_at z)) (sym b) r)

  alone : (f : Form) (p : Place) → called f ≡ [] → below f ≡ [] → CallsWell (record { place = p; form = f })
  alone f p c b under e = of_parts p f [] [] c b none none

  -- ---- operands

  operand : (a : Expr) (under : Bool) → CallsWell a → (one w under a).faults ≡ [] → All P (flat_map calls_at (inside a))
  operand a under h e = h under (one_faults w under a e)

  pair : (a b : Expr) → CallsWell a → CallsWell b → (both (one w false a) (one w false b)).faults ≡ [] → All P (flat_map calls_at (inside a ++ inside b))
  pair a b ha hb e =
      two (inside a) (inside b) (operand a false ha (nil_left (one w false a).faults (one w false b).faults e)) (operand b false hb (nil_right (one w false a).faults (one w false b).faults e))

  arguments : (es : List Expr) → EachOf CallsWell es → (row w false es).faults ≡ [] → All P (flat_map calls_at (flat_map inside es))
  arguments [] h e = none
  arguments (a ∷ es) h e =
      two (inside a) (flat_map inside es) (h.0 false (nil_left (judge_of w false a).faults (row w false es).faults e)) (arguments es h.1 (nil_right (judge_of w false a).faults (row w false es).faults e))

  values : (on : Option Ty) (earlier : List Tag) (bs : List MergeBranch) → EachValue CallsWell bs → (branch_row w on earlier bs).faults ≡ [] → All P (flat_map calls_at (flat_map (λ b. inside b.value) bs))
  values on earlier [] h e = none
  values on earlier (b ∷ bs) h e =
      let own = fault b.place.0 UnknownName (unknown_tag w b.tag) ++ fault b.place.0 Duplicate (list_any (same_tag b.tag) earlier) in
      let branch = judged b.place.0 own (judge_of w false b.value) (branch_fit w b.tag on) in
      let rest = branch_row w on (b.tag ∷ earlier) bs in
      let here = clean b.place.0 own (judge_of w false b.value) (branch_fit w b.tag on) (nil_left branch.faults rest.faults e) in
      two (inside b.value) (flat_map (λ b. inside b.value) bs) (h.0 false here.operand_faults) (values on (b.tag ∷ earlier) bs h.1 (nil_right branch.faults rest.faults e))

  -- ---- forms

  of_unary : (op : UnaryOp) (a : Expr) (p : Place) → CallsWell a → CallsWell (record { place = p; form = form.Unary op a })
  of_unary op a p h under e =
      let c = clean p.0 [] (one w false a) (unary_fit op) (sym (ap (λ j. j.faults) (judge-Unary w under p.0 op a)) ∙ e) in
      of_parts p (form.Unary op a) [] (inside a) (called-Unary op a) (below-Unary op a) none (operand a false h c.operand_faults)

  of_pre : (a : Expr) (p : Place) → CallsWell a → CallsWell (record { place = p; form = form.Pre a })
  of_pre a p h under e =
      let c = clean p.0 [] (one w false a) (λ ts. barred w (alike ts)) (sym (ap (λ j. j.faults) (judge-Pre w under p.0 a)) ∙ e) in
      of_parts p (form.Pre a) [] (inside a) (called-Pre a) (below-Pre a) none (operand a false h c.operand_faults)

  of_get : (a : Expr) (p : Place) → CallsWell a → CallsWell (record { place = p; form = form.Get a })
  of_get a p h under e =
      let c = clean p.0 [] (one w true a) (λ ts. barred w (get_fit ts)) (sym (ap (λ j. j.faults) (judge-Get w under p.0 a)) ∙ e) in
      of_parts p (form.Get a) [] (inside a) (called-Get a) (below-Get a) none (operand a true h c.operand_faults)

  of_when : (a : Expr) (t : Tag) (x : Name) (p : Place) → CallsWell a → CallsWell (record { place = p; form = form.When a t x })
  of_when a t x p h under e =
      let own = read_faults w p.0 x ++ fault p.0 UnknownName (unknown_tag w t) in
      let c = clean p.0 own (one w false a) (when_fit w t (type_of_variable w x)) (sym (ap (λ j. j.faults) (judge-When w under p.0 a t x)) ∙ e) in
      of_parts p (form.When a t x) [] (inside a) (called-When a t x) (below-When a t x) none (operand a false h c.operand_faults)

  of_binary : (op : BinaryOp) (a b : Expr) (p : Place) → CallsWell a → CallsWell b → CallsWell (record { place = p; form = form.Binary op a b })
  of_binary op a b p ha hb under e =
      let own = fault p.0 ZeroDivisor (divides op && not (is_nonzero b.form && true)) in
      let c = clean p.0 own (both (one w false a) (one w false b)) (binary_fit op) (sym (ap (λ j. j.faults) (judge-Binary w under p.0 op a b)) ∙ e) in
      of_parts p (form.Binary op a b) [] (inside a ++ inside b) (called-Binary op a b) (below-Binary op a b) none (pair a b ha hb c.operand_faults)

  of_fby : (a b : Expr) (p : Place) → CallsWell a → CallsWell b → CallsWell (record { place = p; form = form.Fby a b })
  of_fby a b p ha hb under e =
      let c = clean p.0 [] (both (one w false a) (one w false b)) (λ ts. barred w (alike ts)) (sym (ap (λ j. j.faults) (judge-Fby w under p.0 a b)) ∙ e) in
      of_parts p (form.Fby a b) [] (inside a ++ inside b) (called-Fby a b) (below-Fby a b) none (pair a b ha hb c.operand_faults)

  of_arrow : (a b : Expr) (p : Place) → CallsWell a → CallsWell b → CallsWell (record { place = p; form = form.Arrow a b })
  of_arrow a b p ha hb under e =
      let c = clean p.0 [] (both (one w false a) (one w false b)) (λ ts. barred w (alike ts)) (sym (ap (λ j. j.faults) (judge-Arrow w under p.0 a b)) ∙ e) in
      of_parts p (form.Arrow a b) [] (inside a ++ inside b) (called-Arrow a b) (below-Arrow a b) none (pair a b ha hb c.operand_faults)

  of_if : (i a b : Expr) (p : Place) → CallsWell i → CallsWell a → CallsWell b → CallsWell (record { place = p; form = form.If i a b })
  of_if i a b p hi ha hb under e =
      let others = both (one w false a) (one w false b) in
      let c = clean p.0 [] (both (one w false i) others) if_fit (sym (ap (λ j. j.faults) (judge-If w under p.0 i a b)) ∙ e) in
      let first = operand i false hi (nil_left (one w false i).faults others.faults c.operand_faults) in
      let rest = pair a b ha hb (nil_right (one w false i).faults others.faults c.operand_faults) in
      of_parts p (form.If i a b) [] (inside i ++ (inside a ++ inside b)) (called-If i a b) (below-If i a b ∙ append_assoc (inside i) (inside a) (inside b)) none (two (inside i) (inside a ++ inside b) first rest)

  of_merge : (x : Name) (bs : List MergeBranch) (p : Place) → EachValue CallsWell bs → CallsWell (record { place = p; form = form.Merge x bs })
  of_merge x bs p h under e =
      let own = read_faults w p.0 x ++ lack_faults w p.0 (map (λ b. b.tag) bs) (type_of_variable w x) in
      let c = clean p.0 own (branch_row w (type_of_variable w x) [] bs) (merge_fit w (type_of_variable w x)) (sym (ap (λ j. j.faults) (judge-Merge w under p.0 x bs)) ∙ e) in
      of_parts p (form.Merge x bs) [] (flat_map (λ b. inside b.value) bs) (called-Merge x bs) (below-Merge x bs) none (values (type_of_variable w x) [] bs h c.operand_faults)

  of_callee : (f : Name) (p : ℕ) (o : Option Node) (own : List Fault) (give : Fit → Fit) (args : Judged (List (List Ty))) → node_named w.nodes f ≡ o → (call_judged w p o own give args).faults ≡ [] → P f × (args.faults ≡ [])
  of_callee f p None own give args is e =
      absurd (not_nil _ own (clean p (record { place = p; kind = UnknownName } ∷ own) args (λ ts. barred w Untyped) e).own_faults)
  of_callee f p (Some g) own give args is e =
      let back = fault p Recursive (calls_lead w.nodes g.name w.node.name) in
      let c = clean p (back ++ own) args (λ ts. barred w (give (call_fit g ts))) e in
      ((g, is, no_fault p Recursive (calls_lead w.nodes g.name w.node.name) (nil_left back own c.own_faults)), c.operand_faults)

  of_call : (f : Name) (args : List Expr) (p : Place) → EachOf CallsWell args → CallsWell (record { place = p; form = form.Call f args })
  of_call f args p h under e =
      let c = of_callee f p.0 (node_named w.nodes f) [] (λ g. g) (row w false args) refl (sym (ap (λ j. j.faults) (judge-Call w under p.0 f args)) ∙ e) in
      of_parts p (form.Call f args) (f ∷ []) (flat_map inside args) (called-Call f args) (below-Call f args) (All-cons P f [] c.0 none) (arguments args h c.1)

  of_async_call : (q : ℕ) (f : Name) (args : List Expr) (p : Place) → EachOf CallsWell args → CallsWell (record { place = p; form = form.AsyncCall q f args })
  of_async_call q f args p h under e =
      let c = of_callee f p.0 (node_named w.nodes f) (fault p.0 NestedAsync (nested w)) async_fit (row w false args) refl (sym (ap (λ j. j.faults) (judge-AsyncCall w under p.0 q f args)) ∙ e) in
      of_parts p (form.AsyncCall q f args) (f ∷ []) (flat_map inside args) (called-AsyncCall q f args) (below-AsyncCall q f args) (All-cons P f [] c.0 none) (arguments args h c.1)

  of_form : (v : Form-F Form Expr MergeBranch) (p : Place) → EachOperand CallsWell v → CallsWell (record { place = p; form = roll-Form v })
  of_form (Form-F.Const k) p h = subst (λ (f : Form). CallsWell (record { place = p; form = f })) (sym (form.rolls-Const k)) (alone (form.Const k) p (called-Const k) (below-Const k))
  of_form (Form-F.Var x) p h = subst (λ (f : Form). CallsWell (record { place = p; form = f })) (sym (form.rolls-Var x)) (alone (form.Var x) p (called-Var x) (below-Var x))
  of_form (Form-F.Last x) p h = subst (λ (f : Form). CallsWell (record { place = p; form = f })) (sym (form.rolls-Last x)) (alone (form.Last x) p (called-Last x) (below-Last x))
  of_form (Form-F.Unary op a) p h = subst (λ (f : Form). CallsWell (record { place = p; form = f })) (sym (form.rolls-Unary op a)) (of_unary op a p h)
  of_form (Form-F.Binary op a b) p h = subst (λ (f : Form). CallsWell (record { place = p; form = f })) (sym (form.rolls-Binary op a b)) (of_binary op a b p h.0 h.1)
  of_form (Form-F.If i a b) p h = subst (λ (f : Form). CallsWell (record { place = p; form = f })) (sym (form.rolls-If i a b)) (of_if i a b p h.0 h.1 h.2)
  of_form (Form-F.Fby a b) p h = subst (λ (f : Form). CallsWell (record { place = p; form = f })) (sym (form.rolls-Fby a b)) (of_fby a b p h.0 h.1)
  of_form (Form-F.Pre a) p h = subst (λ (f : Form). CallsWell (record { place = p; form = f })) (sym (form.rolls-Pre a)) (of_pre a p h)
  of_form (Form-F.Arrow a b) p h = subst (λ (f : Form). CallsWell (record { place = p; form = f })) (sym (form.rolls-Arrow a b)) (of_arrow a b p h.0 h.1)
  of_form (Form-F.When a t x) p h = subst (λ (f : Form). CallsWell (record { place = p; form = f })) (sym (form.rolls-When a t x)) (of_when a t x p h)
  of_form (Form-F.Merge x bs) p h = subst (λ (f : Form). CallsWell (record { place = p; form = f })) (sym (form.rolls-Merge x bs)) (of_merge x bs p h)
  of_form (Form-F.Call f args) p h = subst (λ (g : Form). CallsWell (record { place = p; form = g })) (sym (form.rolls-Call f args)) (of_call f args p h)
  of_form (Form-F.AsyncCall q f args) p h = subst (λ (g : Form). CallsWell (record { place = p; form = g })) (sym (form.rolls-AsyncCall q f args)) (of_async_call q f args p h)
  of_form (Form-F.AsyncConst k) p h = subst (λ (f : Form). CallsWell (record { place = p; form = f })) (sym (form.rolls-AsyncConst k)) (alone (form.AsyncConst k) p (called-AsyncConst k) (below-AsyncConst k))
  of_form (Form-F.Get a) p h = subst (λ (f : Form). CallsWell (record { place = p; form = f })) (sym (form.rolls-Get a)) (of_get a p h)

  of_expression : (e : Expr) → CallsWell e
  of_expression e = by_operands CallsWell of_form e

  -- ---- parts

  demanded_well : (p : ℕ) (pass : List Ty → Bool) (e : Expr) → demanded w p pass (judge_expr w e) ≡ [] → All P (flat_map calls_at (inside e ++ []))
  demanded_well p pass e h =
      two (inside e) [] (of_expression e false (nil_right (fault p Mismatch (not (option_map_or pass (judge_expr w e).types true))) (judge_expr w e).faults h)) none

  of_part : (q : Part) → part_faults w q ≡ [] → All P (flat_map calls_at (flat_map inside (expressions_of q)))
  of_part (Block ds equations) e = none
  of_part (Plain p left right) e = demanded_well p (fits_left w (left_types w left)) right (nil_right _ (demanded w p (fits_left w (left_types w left)) (judge_expr w right)) e)
  of_part (Switch p on branches) e =
      demanded_well p (can_branch w) on (nil_left (demanded w p (can_branch w) (judge_expr w on)) _ (nil_left _ _ (nil_left _ _ (nil_left _ _ e))))
  of_part (Reset p every sets) e = demanded_well p (is_bool w) every e
  of_part (Automaton p states) e = none
  of_part (Transition strong states t) e = demanded_well t.place.0 (is_bool w) t.condition (nil_left (demanded w t.place.0 (is_bool w) (judge_expr w t.condition)) _ e)

-- ---- nodes

all_flat : {X Y : Type 0} (P : Name → Type 0) (g : Y → List Name) (f : X → List Y) (xs : List X) → All (λ x. All P (flat_map g (f x))) xs → All P (flat_map g (flat_map f xs))
all_flat P g f [] h = All-nil P
all_flat {X} P g f (x ∷ xs) h =
    subst (All P) (sym (flat_map-append g (f x) (flat_map f xs)))
    (All-append P (flat_map g (f x)) (flat_map g (flat_map f xs)) (All-head (λ (x : X). All P (flat_map g (f x))) x xs h) (all_flat P g f xs (All-tail (λ (x : X). All P (flat_map g (f x))) x xs h)))

-- each call of a node's text
pub node_calls : (program : Program) (node : Node) → node_faults program node ≡ [] → All (NotBack program.nodes node) (calls_of (Some node))
node_calls program node e =
    let faults_of = λ (q : Placed). part_faults (judging program node q) q.part in
    all_flat (NotBack program.nodes node) calls_at (λ (q : Placed). flat_map inside (expressions_of q.part)) (parts node)
    (All-weaker (λ (q : Placed). faults_of q ≡ []) (λ (q : Placed). All (NotBack program.nodes node) (flat_map calls_at (flat_map inside (expressions_of q.part))))
    (λ q h. of_part (judging program node q) q.part h) (parts node) (none_of_each faults_of (parts node) (nil_right _ (flat_map faults_of (parts node)) e)))
