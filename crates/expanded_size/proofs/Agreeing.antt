-- The expanded size of a node is that of its expanded text.
use Rattle.std.proofs.Common.{◌≡◌, ℕ, suc, ◌+◌, ◌-◌, Bool, true, false, if◌then◌else◌, List, [], ◌∷◌, ◌++◌, length, map, take, refl, sym, ap, subst, ◌∙◌, arith, append_assoc, append-nil, zero-add, Some, Option, slice_get}
use Rattle.std.specs.List.{flat_map}
use Rattle.std.specs.Option.{option_map}
use Rattle.std.proofs.lemmas.Grind.{flat_map-append}
use Rattle.hept_ast.specs.Texts.{Name, same}
use Rattle.hept_ast.specs.Scopes.{Called, Clock, In_body, In_branch, In_state, Scope, Text, Top, Written, block_of, block_or_none, text_of}
use Rattle.hept_ast.specs.Meaning.{Setting, call_of}
use Rattle.hept_ast.specs.Faults.{called, calls_of, node_named}
use Rattle.hept_ast.specs.Parts.{below, expressions, inside}
use Rattle.hept_ast.specs.Sites.{Body, Expression, Piece, Statement, body_pieces, callee_pieces, clock_of_left, conditions, equation_pieces, state_pieces}
use Rattle.hept_ast.specs.Sites as sites
use Rattle.hept_ast.specs.ExpandedSize.{SizeOf, SizeOfAll, form_parts, no_parts, one_part, with_parts}
use Rattle.hept_ast.specs.Settings.{of_program, written_node}
use Rattle.hept_ast.specs.InnerParts.{escape_parts, expressions_in, inner_parts, parts_of_block, parts_of_state}
use Rattle.hept_ast.specs.declared.name.Place.{Place}
use Rattle.hept_ast.specs.declared.tree.Escape.{Escape}
use Rattle.hept_ast.specs.declared.tree.Block.{Block, Block-F, roll-Block}
use Rattle.hept_ast.specs.declared.tree.Branch.{Branch}
use Rattle.hept_ast.specs.declared.tree.State.{State}
use Rattle.hept_ast.specs.declared.tree.Equation.{Equation, ind-Equation, map-Equation, roll-Equation}
use Rattle.hept_ast.specs.declared.tree.Equation.TheOpen.{Branch-F, Equation-F, State-F}
use Rattle.hept_ast.specs.declared.tree.Equation.TheViews.{out-roll-Equation, roll-Branch, roll-State}
use Rattle.hept_ast.specs.declared.tree.Equation.TheVariants as eq
use Rattle.hept_ast.specs.declared.tree.Expr.{Expr}
use Rattle.hept_ast.specs.declared.tree.MergeBranch.{MergeBranch}
use Rattle.hept_ast.specs.declared.tree.Node.{Node}
use Rattle.hept_ast.specs.declared.tree.Form.{Form, roll-Form}
use Rattle.hept_ast.specs.declared.tree.Form.TheOpen.{Form-F}
use Rattle.hept_ast.specs.declared.tree.Form.TheViews.{out-roll-Form}
use Rattle.hept_ast.specs.declared.tree.Form.TheVariants as form
use Rattle.hept_ast.proofs.FormsOf.{below-Const, below-Var, below-Last, below-Unary, below-Binary, below-If, below-Fby, below-Pre, below-Arrow, below-When, below-Merge, below-Call, below-AsyncCall, below-AsyncConst, below-Get}
use Rattle.hept_ast.proofs.CalledForms.{called-Const, called-Var, called-Last, called-Unary, called-Binary, called-If, called-Fby, called-Pre, called-Arrow, called-When, called-Merge, called-Call, called-AsyncCall, called-AsyncConst, called-Get}
use Rattle.hept_ast.proofs.InnerParts.{inner-Automaton, inner-Define, inner-Reset, inner-Switch}
use Rattle.hept_ast.proofs.WholeNode.{all_expressions}
use Rattle.sound_expressions.proofs.Forms.{EachOf, EachOperand, EachValue, by_operands}
use Rattle.expanded_size.specs.Sizes.{SizeIs, SizesAgree, SizesAre, a_call, no_call, of_text}
use Rattle.expanded_size.proofs.Weighed.{AllAre, MakeAll, Makes, Weigh, calls_at, make_along, make_both, make_each, make_none, make_one, make_turned, no_more, none, one_more, sizes_join, split}

module _ (nodes : List Node) (w : Setting) (looks : (f : Name) (g : Node) → node_named nodes f ≡ Some g → (j : ℕ) × (w.node f ≡ Some (Written j g))) where
  -- ---- expressions

  -- an expression has the size of all in it, wherever it stands
  abbrev Sizes : Expr → Type 0
  Sizes e = (c : Clock) (s : Scope) → Makes nodes w (inside e) (Expression e c s)

  arguments : (es : List Expr) (c : Clock) (s : Scope) → EachOf Sizes es → MakeAll nodes w (flat_map inside es) (sites.expressions es c s)
  arguments [] c s h = make_none nodes w
  arguments (e ∷ es) c s h = make_one nodes w (inside e) (flat_map inside es) (Expression e c s) (sites.expressions es c s) (h.0 c s) (arguments es c s h.1)

  values : (bs : List MergeBranch) (x : Name) (c : Clock) (s : Scope) → EachValue Sizes bs →
      MakeAll nodes w (flat_map (λ b. inside b.value) bs) (map (λ b. Expression b.value (c ++ record { tag = b.tag; name = x } ∷ []) s) bs)
  values [] x c s h = make_none nodes w
  values (b ∷ bs) x c s h =
      make_one nodes w (inside b.value) (flat_map (λ b. inside b.value) bs) (Expression b.value (c ++ record { tag = b.tag; name = x } ∷ []) s)
      (map (λ b. Expression b.value (c ++ record { tag = b.tag; name = x } ∷ []) s) bs) (h.0 (c ++ record { tag = b.tag; name = x } ∷ []) s) (values bs x c s h.1)

  -- a form that calls these nodes and has these expressions in it
  closed : (v : Form-F Form Expr MergeBranch) (f : Form) (p : Place) (c : Clock) (s : Scope) (xs : List Name) (es : List Expr) (ps qs : List Piece) → roll-Form v ≡ f → called f ≡ xs → below f ≡ es →
      form_parts w v (record { place = p; form = roll-Form v }) c s ≡ ps ++ qs → ((n : ℕ) → AllAre nodes w xs n → SizeOfAll w ps n) → MakeAll nodes w es qs →
      Makes nodes w (inside (record { place = p; form = roll-Form v })) (Expression (record { place = p; form = roll-Form v }) c s)
  closed v f p c s xs es ps qs is calls parts pieces callee rest n h =
      let e : Expr = record { place = p; form = roll-Form v } in
      let inner : below (roll-Form v) ≡ es = ap below is ∙ parts in
      let all_calls : called (roll-Form v) ++ flat_map calls_at (below (roll-Form v)) ≡ xs ++ flat_map calls_at es =
      ap (λ (ys : List Name). ys ++ flat_map calls_at (below (roll-Form v))) (ap called is ∙ calls) ∙ ap (λ (ds : List Expr). xs ++ flat_map calls_at ds) inner in
      let r = split nodes w xs (flat_map calls_at es) h.callees (subst (λ (ys : List Name). AllAre nodes w ys h.callees) all_calls h.are) in
      let all = sizes_join nodes w ps qs r.first (length es + r.second) (callee r.first r.left) (rest (length es + r.second) (record { callees = r.second; are = r.right; sum = refl })) in
      let sum : n ≡ 1 + (r.first + (length es + r.second)) = omega (arith, h.sum, r.total, ap length inner) in
      subst (SizeOf w (Expression e c s)) (sym sum)
      (with_parts (subst (λ (zs : List Piece). SizeOfAll w zs (r.first + (length es + r.second))) (sym (ap (λ (u : Form-F Form Expr MergeBranch). form_parts w u e c s) (out-roll-Form v) ∙ pieces)) all))

  -- no call
  nothing : (n : ℕ) → AllAre nodes w [] n → SizeOfAll w [] n
  nothing n h = subst (SizeOfAll w []) (sym (none nodes w n h)) no_parts

  -- a form that calls no node
  without : (v : Form-F Form Expr MergeBranch) (f : Form) (p : Place) (c : Clock) (s : Scope) (es : List Expr) (qs : List Piece) → roll-Form v ≡ f → called f ≡ [] → below f ≡ es →
      form_parts w v (record { place = p; form = roll-Form v }) c s ≡ qs → MakeAll nodes w es qs →
      Makes nodes w (inside (record { place = p; form = roll-Form v })) (Expression (record { place = p; form = roll-Form v }) c s)
  without v f p c s es qs is calls parts pieces rest = closed v f p c s [] es [] qs is calls parts pieces nothing rest

  -- the body of the node that is called
  callee_body : (f : Name) (q : Option (List Expr × Text)) (args : List Expr) (place : ℕ) (c : Clock) (s : Scope) → q ≡ option_map (λ (t : Text). (args, t)) (w.node f) →
      (n : ℕ) → AllAre nodes w (f ∷ []) n → SizeOfAll w (callee_pieces w q place c s) n
  callee_body f q args place c s is n (one_more {g = g} {n = a} {m = b} named good rest) =
      let (j, here) = looks f g named in
      subst (λ (o : Option (List Expr × Text)). SizeOfAll w (callee_pieces w o place c s) (a + b)) (sym (is ∙ ap (option_map (λ (t : Text). (args, t))) here))
      (one_part (good (Called s c place args (Written j g)) j refl refl) (nothing b rest))

  one_operand : (a : Expr) (c : Clock) (s : Scope) → Sizes a → MakeAll nodes w (inside a ++ []) (sites.expressions (a ∷ []) c s)
  one_operand a c s h = arguments (a ∷ []) c s (h, tt)

  of_form : (v : Form-F Form Expr MergeBranch) (p : Place) → EachOperand Sizes v → Sizes (record { place = p; form = roll-Form v })
  of_form (Form-F.Const k) p h c s = without (Form-F.Const k) (form.Const k) p c s [] [] (form.rolls-Const k) (called-Const k) (below-Const k) refl (make_none nodes w)
  of_form (Form-F.Var x) p h c s = without (Form-F.Var x) (form.Var x) p c s [] [] (form.rolls-Var x) (called-Var x) (below-Var x) refl (make_none nodes w)
  of_form (Form-F.Last x) p h c s = without (Form-F.Last x) (form.Last x) p c s [] [] (form.rolls-Last x) (called-Last x) (below-Last x) refl (make_none nodes w)
  of_form (Form-F.Unary op a) p h c s =
      without (Form-F.Unary op a) (form.Unary op a) p c s (inside a ++ []) (sites.expressions (a ∷ []) c s) (form.rolls-Unary op a) (called-Unary op a) (below-Unary op a ∙ sym (append-nil (inside a))) refl (one_operand a c s h)
  of_form (Form-F.Binary op a b) p h c s =
      without (Form-F.Binary op a b) (form.Binary op a b) p c s (inside a ++ (inside b ++ [])) (sites.expressions (a ∷ b ∷ []) c s) (form.rolls-Binary op a b) (called-Binary op a b)
      (below-Binary op a b ∙ ap (λ (t : List Expr). inside a ++ t) (sym (append-nil (inside b)))) refl (arguments (a ∷ b ∷ []) c s (h.0, (h.1, tt)))
  of_form (Form-F.If i a b) p h c s =
      without (Form-F.If i a b) (form.If i a b) p c s (inside i ++ (inside a ++ (inside b ++ []))) (sites.expressions (i ∷ a ∷ b ∷ []) c s) (form.rolls-If i a b) (called-If i a b)
      (below-If i a b ∙ (append_assoc (inside i) (inside a) (inside b) ∙ ap (λ (t : List Expr). inside i ++ (inside a ++ t)) (sym (append-nil (inside b))))) refl
      (arguments (i ∷ a ∷ b ∷ []) c s (h.0, (h.1, (h.2, tt))))
  of_form (Form-F.Fby a b) p h c s =
      without (Form-F.Fby a b) (form.Fby a b) p c s (inside a ++ (inside b ++ [])) (sites.expressions (a ∷ b ∷ []) c s) (form.rolls-Fby a b) (called-Fby a b)
      (below-Fby a b ∙ ap (λ (t : List Expr). inside a ++ t) (sym (append-nil (inside b)))) refl (arguments (a ∷ b ∷ []) c s (h.0, (h.1, tt)))
  of_form (Form-F.Pre a) p h c s =
      without (Form-F.Pre a) (form.Pre a) p c s (inside a ++ []) (sites.expressions (a ∷ []) c s) (form.rolls-Pre a) (called-Pre a) (below-Pre a ∙ sym (append-nil (inside a))) refl (one_operand a c s h)
  of_form (Form-F.Arrow a b) p h c s =
      without (Form-F.Arrow a b) (form.Arrow a b) p c s (inside a ++ (inside b ++ [])) (sites.expressions (a ∷ b ∷ []) c s) (form.rolls-Arrow a b) (called-Arrow a b)
      (below-Arrow a b ∙ ap (λ (t : List Expr). inside a ++ t) (sym (append-nil (inside b)))) refl (arguments (a ∷ b ∷ []) c s (h.0, (h.1, tt)))
  of_form (Form-F.When a tag x) p h c s =
      without (Form-F.When a tag x) (form.When a tag x) p c s (inside a ++ []) (sites.expressions (a ∷ []) (take (length c - 1) c) s) (form.rolls-When a tag x) (called-When a tag x)
      (below-When a tag x ∙ sym (append-nil (inside a))) refl (one_operand a (take (length c - 1) c) s h)
  of_form (Form-F.Merge x bs) p h c s =
      without (Form-F.Merge x bs) (form.Merge x bs) p c s (flat_map (λ b. inside b.value) bs) (map (λ b. Expression b.value (c ++ record { tag = b.tag; name = x } ∷ []) s) bs)
      (form.rolls-Merge x bs) (called-Merge x bs) (below-Merge x bs) refl (values bs x c s h)
  of_form (Form-F.Call f args) p h c s =
      closed (Form-F.Call f args) (form.Call f args) p c s (f ∷ []) (flat_map inside args) (callee_pieces w (call_of w (Form-F.Call f args)) p.0 c s) (sites.expressions args c s)
      (form.rolls-Call f args) (called-Call f args) (below-Call f args) refl (callee_body f (call_of w (Form-F.Call f args)) args p.0 c s refl) (arguments args c s h)
  of_form (Form-F.AsyncCall q f args) p h c s =
      closed (Form-F.AsyncCall q f args) (form.AsyncCall q f args) p c s (f ∷ []) (flat_map inside args) (callee_pieces w (call_of w (Form-F.AsyncCall q f args)) p.0 c s) (sites.expressions args c s)
      (form.rolls-AsyncCall q f args) (called-AsyncCall q f args) (below-AsyncCall q f args) refl (callee_body f (call_of w (Form-F.AsyncCall q f args)) args p.0 c s refl) (arguments args c s h)
  of_form (Form-F.AsyncConst k) p h c s = without (Form-F.AsyncConst k) (form.AsyncConst k) p c s [] [] (form.rolls-AsyncConst k) (called-AsyncConst k) (below-AsyncConst k) refl (make_none nodes w)
  of_form (Form-F.Get a) p h c s =
      without (Form-F.Get a) (form.Get a) p c s (inside a ++ []) (sites.expressions (a ∷ []) c s) (form.rolls-Get a) (called-Get a) (below-Get a ∙ sym (append-nil (inside a))) refl (one_operand a c s h)

  of_expression : (e : Expr) → Sizes e
  of_expression e = by_operands Sizes of_form e

  -- ---- equations

  abbrev eq_exprs : Equation → List Expr
  eq_exprs e = flat_map expressions_in (inner_parts e)

  abbrev body_exprs : List Equation → List Expr
  body_exprs es = flat_map eq_exprs es

  -- an equation, and a body of equations, in each scope of a node of a program
  abbrev SizesEquation : Equation → Type 0
  SizesEquation e = (s : Scope) (j : ℕ) (node : Node) → text_of s ≡ Written j node → Makes nodes w (eq_exprs e) (Statement e s)

  abbrev SizesBody : List Equation → Type 0
  SizesBody es = (s : Scope) (j : ℕ) (node : Node) → text_of s ≡ Written j node → (block_of s).body ≡ es → Makes nodes w (body_exprs es) (Body s)

  body_by : (s : Scope) (j : ℕ) (node : Node) (es : List Equation) → text_of s ≡ Written j node → (block_of s).body ≡ es → MakeAll nodes w (body_exprs es) (map (λ e. Statement e s) es) → Makes nodes w (body_exprs es) (Body s)
  body_by s j node es is body all n h =
      subst (SizeOf w (Body s)) (zero-add n)
      (with_parts (subst (λ (ps : List Piece). SizeOfAll w ps n) (sym (ap (λ (t : Text). body_pieces w t s) is ∙ ap (map (λ (e : Equation). Statement e s)) body)) (all n h)))

  body_of : (ys : List ((e : Equation) × SizesEquation e)) → SizesBody (map (λ y. y.0) ys)
  body_of ys s j node is body =
      body_by s j node (map (λ y. y.0) ys) is body (make_each nodes w (λ (y : (e : Equation) × SizesEquation e). y.0) eq_exprs (λ e. Statement e s) (λ y. y.1 s j node is) ys)

  flat_flat : {X Y Z : Type 0} (f : Y → List Z) (g : X → List Y) (xs : List X) → flat_map f (flat_map g xs) ≡ flat_map (λ x. flat_map f (g x)) xs
  flat_flat f g [] = refl
  flat_flat f g (x ∷ xs) = flat_map-append f (g x) (flat_map g xs) ∙ ap (λ t. flat_map f (g x) ++ t) (flat_flat f g xs)

  block_is : (b : Block) → flat_map expressions_in (parts_of_block b) ≡ body_exprs b.body
  block_is b = flat_flat expressions_in inner_parts b.body

  -- the bodies of branches
  branches : (ys : List ((b : Branch) × SizesBody b.block.body)) (on : Expr) (s : Scope) (j : ℕ) (node : Node) → text_of s ≡ Written j node →
      MakeAll nodes w (flat_map (λ b. body_exprs b.block.body) (map (λ y. y.0) ys)) (map (λ b. Body (In_branch s on b)) (map (λ y. y.0) ys))
  branches ys on s j node is =
      make_each nodes w (λ (y : (b : Branch) × SizesBody b.block.body). y.0) (λ b. body_exprs b.block.body) (λ b. Body (In_branch s on b)) (λ y. y.1 (In_branch s on y.0) j node is refl) ys

  escapes : (es : List Escape) (s : Scope) → MakeAll nodes w (flat_map (λ e. inside e.condition) es) (conditions es s)
  escapes [] s = make_none nodes w
  escapes (e ∷ es) s = make_one nodes w (inside e.condition) (flat_map (λ e. inside e.condition) es) (Expression e.condition [] s) (conditions es s) (of_expression e.condition [] s) (escapes es s)

  escapes_are : (strong : Bool) (states : List State) (es : List Escape) → flat_map expressions_in (escape_parts strong states es) ≡ flat_map (λ e. inside e.condition) es
  escapes_are strong states [] = refl
  escapes_are strong states (e ∷ es) = ap (λ t. (inside e.condition ++ []) ++ t) (escapes_are strong states es) ∙ ap (λ t. t ++ flat_map (λ (e : Escape). inside e.condition) es) (append-nil (inside e.condition))

  abbrev state_exprs : State → List Expr
  state_exprs q = body_exprs q.block.body ++ (flat_map (λ e. inside e.condition) q.weak ++ flat_map (λ e. inside e.condition) q.strong)

  state_is : (states : List State) (q : State) → flat_map expressions_in (parts_of_state states q) ≡ state_exprs q
  state_is states q =
      let block = parts_of_block q.block in
      let weak = escape_parts false states q.weak in
      let strong = escape_parts true states q.strong in
      flat_map-append expressions_in (block ++ weak) strong
      ∙ (ap (λ t. t ++ flat_map expressions_in strong) (flat_map-append expressions_in block weak)
      ∙ (append_assoc (flat_map expressions_in block) (flat_map expressions_in weak) (flat_map expressions_in strong)
      ∙ (ap (λ t. t ++ (flat_map expressions_in weak ++ flat_map expressions_in strong)) (block_is q.block)
      ∙ (ap (λ t. body_exprs q.block.body ++ (t ++ flat_map expressions_in strong)) (escapes_are false states q.weak)
      ∙ ap (λ t. body_exprs q.block.body ++ (flat_map (λ (e : Escape). inside e.condition) q.weak ++ t)) (escapes_are true states q.strong)))))

  -- states from a position on
  states_from : (ys : List ((q : State) × SizesBody q.block.body)) (states : List State) (k : ℕ) (s : Scope) (j : ℕ) (node : Node) → text_of s ≡ Written j node →
      ((i : ℕ) (q : State) → slice_get (map (λ y. y.0) ys) i ≡ Some q → slice_get states (k + i) ≡ Some q) →
      MakeAll nodes w (flat_map state_exprs (map (λ y. y.0) ys)) (state_pieces (map (λ y. y.0) ys) states k s)
  states_from [] states k s j node is at = make_none nodes w
  states_from (y ∷ ys) states k s j node is at =
      let q = y.0 in
      let inner = In_state s states k in
      let here : slice_get states k ≡ Some q = ap (slice_get states) (no_further k) ∙ at 0 q refl in
      let rest = states_from ys states (suc k) s j node is (λ i p e. ap (slice_get states) (further k i) ∙ at (suc i) p e) in
      let own = y.1 inner j node is (ap (λ (o : Option State). (block_or_none o).body) here) in
      make_along nodes w (body_exprs q.block.body ++ (exits q ++ flat_map state_exprs (map (λ y. y.0) ys))) (state_exprs q ++ flat_map state_exprs (map (λ y. y.0) ys))
      (state_pieces (q ∷ map (λ y. y.0) ys) states k s) (sym (append_assoc (body_exprs q.block.body) (exits q) (flat_map state_exprs (map (λ y. y.0) ys))))
      (make_one nodes w (body_exprs q.block.body) (exits q ++ flat_map state_exprs (map (λ y. y.0) ys)) (Body inner)
      (conditions q.weak inner ++ conditions q.strong s ++ state_pieces (map (λ y. y.0) ys) states (suc k) s) own
      (make_both nodes w (exits q) (flat_map state_exprs (map (λ y. y.0) ys)) (conditions q.weak inner ++ conditions q.strong s) (state_pieces (map (λ y. y.0) ys) states (suc k) s)
      (make_both nodes w (flat_map (λ e. inside e.condition) q.weak) (flat_map (λ e. inside e.condition) q.strong) (conditions q.weak inner) (conditions q.strong s) (escapes q.weak inner) (escapes q.strong s)) rest))
    where
      no_further : (k : ℕ) → k ≡ k + 0
      no_further k = omega arith

      further : (k i : ℕ) → suc k + i ≡ k + suc i
      further k i = omega arith

      exits : State → List Expr
      exits q = flat_map (λ e. inside e.condition) q.weak ++ flat_map (λ e. inside e.condition) q.strong

  abbrev Layer : Type 0
  Layer = Equation-F ((e : Equation) × SizesEquation e) ((b : Block) × SizesBody b.body) ((b : Branch) × SizesBody b.block.body) ((q : State) × SizesBody q.block.body)

  abbrev bare : Layer → Equation-F Equation Block Branch State
  bare y = map-Equation ((e : Equation) × SizesEquation e) ((b : Block) × SizesBody b.body) ((b : Branch) × SizesBody b.block.body) ((q : State) × SizesBody q.block.body) Equation Block Branch State
      (λ z. z.0) (λ z. z.0) (λ z. z.0) (λ z. z.0) y

  -- an equation by what it is made of
  made_of : (v : Equation-F Equation Block Branch State) (e : Equation) (es : List Expr) (s : Scope) → roll-Equation v ≡ e → eq_exprs e ≡ es → MakeAll nodes w es (equation_pieces w v s) → Makes nodes w (eq_exprs (roll-Equation v)) (Statement (roll-Equation v) s)
  made_of v e es s is exprs all n h =
      let own = subst (λ (xs : List Expr). Weigh nodes w xs n) (ap eq_exprs is ∙ exprs) h in
      subst (SizeOf w (Statement (roll-Equation v) s)) (zero-add n)
      (with_parts (subst (λ (u : Equation-F Equation Block Branch State). SizeOfAll w (equation_pieces w u s) n) (sym (out-roll-Equation v)) (all n own)))

  layer : (y : Layer) → SizesEquation (roll-Equation (bare y))
  layer (Equation-F.Define p left right) s j node is =
      made_of (Equation-F.Define p left right) (eq.Define p left right) (inside right ++ []) s (eq.rolls-Define p left right) (ap (flat_map expressions_in) (inner-Define p left right) ∙ append-nil (inside right ++ []))
      (make_one nodes w (inside right) [] (Expression right (clock_of_left w left s) s) [] (of_expression right (clock_of_left w left s) s) (make_none nodes w))
  layer (Equation-F.Switch p on ys) s j node is =
      let bs = map (λ (y : (b : Branch) × SizesBody b.block.body). y.0) ys in
      made_of (Equation-F.Switch p on bs) (eq.Switch p on bs) (inside on ++ flat_map (λ b. body_exprs b.block.body) bs) s (eq.rolls-Switch p on bs)
      (ap (flat_map expressions_in) (inner-Switch p on bs)
      ∙ (ap (λ t. t ++ flat_map expressions_in (flat_map (λ (b : Branch). parts_of_block b.block) bs)) (append-nil (inside on))
      ∙ ap (λ t. inside on ++ t) (branch_exprs bs)))
      (make_one nodes w (inside on) (flat_map (λ b. body_exprs b.block.body) bs) (Expression on [] s) (map (λ b. Body (In_branch s on b)) bs) (of_expression on [] s) (branches ys on s j node is))
    where
      branch_exprs : (bs : List Branch) → flat_map expressions_in (flat_map (λ b. parts_of_block b.block) bs) ≡ flat_map (λ b. body_exprs b.block.body) bs
      branch_exprs [] = refl
      branch_exprs (b ∷ bs) =
          flat_map-append expressions_in (parts_of_block b.block) (flat_map (λ (b : Branch). parts_of_block b.block) bs)
          ∙ (ap (λ t. t ++ flat_map expressions_in (flat_map (λ (b : Branch). parts_of_block b.block) bs)) (block_is b.block) ∙ ap (λ t. body_exprs b.block.body ++ t) (branch_exprs bs))
  layer (Equation-F.Reset p block every) s j node is =
      let b = block.0 in
      made_of (Equation-F.Reset p b every) (eq.Reset p b every) (inside every ++ body_exprs b.body) s (eq.rolls-Reset p b every)
      (ap (flat_map expressions_in) (inner-Reset p b every)
      ∙ (ap (λ t. t ++ flat_map expressions_in (parts_of_block b)) (append-nil (inside every)) ∙ ap (λ t. inside every ++ t) (block_is b)))
      (make_turned nodes w (body_exprs b.body) (inside every) (Body (In_body s every b) ∷ Expression every [] s ∷ [])
      (make_one nodes w (body_exprs b.body) (inside every) (Body (In_body s every b)) (Expression every [] s ∷ []) (block.1 (In_body s every b) j node is refl)
      (make_along nodes w (inside every ++ []) (inside every) (Expression every [] s ∷ []) (append-nil (inside every))
      (make_one nodes w (inside every) [] (Expression every [] s) [] (of_expression every [] s) (make_none nodes w)))))
  layer (Equation-F.Automaton p ys) s j node is =
      let qs = map (λ (y : (q : State) × SizesBody q.block.body). y.0) ys in
      made_of (Equation-F.Automaton p qs) (eq.Automaton p qs) (flat_map state_exprs qs) s (eq.rolls-Automaton p qs)
      (ap (flat_map expressions_in) (inner-Automaton p qs) ∙ state_exprs_are qs qs)
      (states_from ys qs 0 s j node is (λ i q e. ap (slice_get qs) (zero-add i) ∙ e))
    where
      state_exprs_are : (states qs : List State) → flat_map expressions_in (flat_map (parts_of_state states) qs) ≡ flat_map state_exprs qs
      state_exprs_are states [] = refl
      state_exprs_are states (q ∷ qs) =
          flat_map-append expressions_in (parts_of_state states q) (flat_map (parts_of_state states) qs)
          ∙ (ap (λ t. t ++ flat_map expressions_in (flat_map (parts_of_state states) qs)) (state_is states q) ∙ ap (λ t. state_exprs q ++ t) (state_exprs_are states qs))

  of_equation : (e : Equation) → SizesEquation e
  of_equation e = ind-Equation SizesEquation (λ b. SizesBody b.body) (λ b. SizesBody b.block.body) (λ q. SizesBody q.block.body)
      (λ x y is. subst (λ (z : Equation-F Equation Block Branch State). SizesEquation (roll-Equation z)) is (layer y))
      (λ x y is. subst (λ (z : Block-F Equation Block Branch State). SizesBody (roll-Block z).body) is (body_of y.body))
      (λ x y is. subst (λ (z : Branch-F Equation Block Branch State). SizesBody (roll-Branch z).block.body) is y.block.1)
      (λ x y is. subst (λ (z : State-F Equation Block Branch State). SizesBody (roll-State z).block.body) is y.block.1) e

  -- ---- nodes

  statements : (es : List Equation) (s : Scope) (j : ℕ) (node : Node) → text_of s ≡ Written j node → MakeAll nodes w (body_exprs es) (map (λ e. Statement e s) es)
  statements [] s j node is = make_none nodes w
  statements (e ∷ es) s j node is = make_one nodes w (eq_exprs e) (body_exprs es) (Statement e s) (map (λ e. Statement e s) es) (of_equation e s j node is) (statements es s j node is)

  of_node : (node : Node) (m n : ℕ) → AllAre nodes w (calls_of (Some node)) m → n ≡ length (expressions node) + m → (s : Scope) (j : ℕ) → text_of s ≡ Written j node → block_of s ≡ node.block → SizeOf w (Body s) n
  of_node node m n are sum s j is block =
      let all : expressions node ≡ body_exprs node.block.body = all_expressions node ∙ flat_flat expressions_in inner_parts node.block.body in
      body_by s j node node.block.body is (ap (λ (b : Block). b.body) block) (statements node.block.body s j node is) n
      (subst (λ (es : List Expr). Weigh nodes w es n) all (record { callees = m; are = are; sum = sum }))

  mutual
    agrees : (node : Node) (n : ℕ) → SizeIs nodes node n → (s : Scope) (j : ℕ) → text_of s ≡ Written j node → block_of s ≡ node.block → SizeOf w (Body s) n
    agrees node n (of_text {n = m} h) s j is block = of_node node m (length (expressions node) + m) (agree_all (calls_of (Some node)) m h) refl s j is block

    agree_all : (fs : List Name) (n : ℕ) → SizesAre nodes fs n → AllAre nodes w fs n
    agree_all fs n no_call = no_more
    agree_all fs n (a_call {fs = rest} {callee = g} {n = a} {m = b} named h hs) = one_more named (λ s j is block. agrees g a h s j is block) (agree_all rest b hs)

-- ---- programs

looks_up : (nodes : List Node) (k : ℕ) (f : Name) (g : Node) → node_named nodes f ≡ Some g → (j : ℕ) × (written_node nodes k f ≡ Some (Written j g))
looks_up [] k f g e = cc
looks_up (m ∷ ms) k f g e = go (same f m.name) e (looks_up ms (suc k) f g)
  where
    go : (b : Bool) → (if b then Some m else node_named ms f) ≡ Some g → (node_named ms f ≡ Some g → (j : ℕ) × (written_node ms (suc k) f ≡ Some (Written j g))) →
        (j : ℕ) × ((if b then Some (Written k m) else written_node ms (suc k) f) ≡ Some (Written j g))
    go true e later = (k, ap (option_map (Written k)) e)
    go false e later = later e

pub sizes_agree : SizesAgree
sizes_agree p clock marked replies k n node at h = agrees p.nodes (of_program p clock marked replies) (λ f g e. looks_up p.nodes 0 f g e) node n h (Top (Written k node)) k refl refl
