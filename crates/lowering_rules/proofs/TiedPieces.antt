-- Pieces of the expanded text of a program, and those of the core that comes of it.
use Rattle.std.proofs.Common.{◌≡◌, ℕ, suc, ◌≤◌, arith, List, [], ◌∷◌, ◌++◌, map, Option, Some, slice_get, refl, sym, ap, subst, ◌∙◌}
use Rattle.std.specs.Option.{option_map}
use Rattle.hept_ast.specs.Texts.{Name}
use Rattle.hept_ast.specs.Scopes.{Clock, Text, Written, Lowered, Scope, Top, Called, Under, text_of, calls_around}
use Rattle.hept_ast.specs.Meaning.{Setting, clock_seen}
use Rattle.hept_ast.specs.Settings.{written_node}
use Rattle.hept_ast.specs.Sites as sites
use Rattle.hept_ast.specs.Sites.{Piece, Expression, Statement, Core_statement, Body, Site, expressions, callee_pieces, form_pieces, equation_pieces, pieces, async_site, form_site, own_site}
use Rattle.hept_ast.specs.declared.name.Place.{Place}
use Rattle.hept_ast.specs.declared.tree.Block.{Block}
use Rattle.hept_ast.specs.declared.tree.Branch.{Branch}
use Rattle.hept_ast.specs.declared.tree.State.{State}
use Rattle.hept_ast.specs.declared.tree.Expr.{Expr}
use Rattle.hept_ast.specs.declared.tree.MergeBranch.{MergeBranch}
use Rattle.hept_ast.specs.declared.tree.Form.{Form, out-Form}
use Rattle.hept_ast.specs.declared.tree.Form.TheOpen.{Form-F}
use Rattle.hept_ast.specs.declared.tree.Equation.{Equation}
use Rattle.hept_ast.specs.declared.tree.Equation.TheOpen.{Equation-F}
use Rattle.hept_ast.specs.declared.tree.Equation.TheVariants as equation
use Rattle.hept_ast.specs.declared.tree.CoreEquation.{CoreEquation}
use Rattle.hept_ast.specs.declared.tree.CoreNode.{CoreNode}
use Rattle.hept_ast.specs.declared.tree.Node.{Node}
use Rattle.hept_ast.specs.declared.tree.Form.TheVariants as form
use Rattle.naming_rules.proofs.Shapes.{out_Const, out_Var, out_Unary, out_Binary, out_If, out_Fby, out_Pre, out_Arrow, out_When, out_Merge, out_Call, out_AsyncCall, out_AsyncConst, out_Get}
use Rattle.lowering_rules.specs.Lowering.{clock_of_left, numbered}
use Rattle.lowering_rules.specs.CallPaths.{call_at, text_calls}
use Rattle.lowering_rules.specs.Ties.{Sides, core_equation, TiedNode, TiedText, tied_text}
use Rattle.lowering_rules.specs.TiedScopes.{LowersIn, const, var, unary, binary, choice, fby, pre, arrow, when, merge, call, async_call, async_const, get, LowersAllIn, no_exprs, more_exprs, LowersBranchesIn, no_branches, more_branches, EquationsIn, no_equations, more_equations, CallsText, TiedScope, top, called}
use Rattle.lowering_rules.proofs.CallsIn.{out_define, node_in}
use Rattle.lowering_rules.proofs.TiedTexts.{TiedOption, no_text, both, seen_same}
use Rattle.lowering_rules.proofs.Orders.{Ordered, AllNumbered}

module _ (z : Sides) where
  abbrev Tied : Scope → Scope → Type 0
  Tied s r = TiedScope z s r

  -- ---- sites

  pub data TiedSite : Site → Site → Type 0 where
    tied_site : {s r : Scope} {c : Clock} {p i q n m : ℕ} {es rs : List Expr} {text low : Text} → Tied s r → LowersAllIn (text_calls (text_of s)) n es rs m → TiedText z text low →
        CallsText z (text_of s) i p text →
        TiedSite (record { scope = s; clock = c; place = p; queue = q; args = es; text = text }) (record { scope = Under r []; clock = c; place = i; queue = q; args = rs; text = low })

  pub data TiedSites : List Site → List Site → Type 0 where
    no_sites : TiedSites [] []
    more_sites : {a b : Site} {fs bs : List Site} → TiedSite a b → TiedSites fs bs → TiedSites (a ∷ fs) (b ∷ bs)

  pub sites_append : (fs bs cs ds : List Site) → TiedSites fs bs → TiedSites cs ds → TiedSites (fs ++ cs) (bs ++ ds)
  sites_append _ _ cs ds no_sites k = k
  sites_append _ _ cs ds (more_sites h hs) k = more_sites h (sites_append _ _ cs ds hs k)

  -- ---- pieces; the calls in them have numbers from n on and below m, behind a path

  pub data TiedPiece : (path : List ℕ) → (n m : ℕ) → Piece → Piece → Type 0 where
    expression : {e d : Expr} {c : Clock} {s r : Scope} {n m : ℕ} → Tied s r → LowersIn (text_calls (text_of s)) n e d m → TiedPiece (calls_around r) n m (Expression e c s) (Expression d c (Under r []))
    statement : {p : Place} {left : List Name} {right d : Expr} {c : Clock} {s r : Scope} {n m : ℕ} → Tied s r → LowersIn (text_calls (text_of s)) n right d m →
        ((w : Setting) → w.clock ≡ z.clock → sites.clock_of_left w left s ≡ c) → TiedPiece (calls_around r) n m (Statement (equation.Define p left right) s) (Core_statement (core_equation p left c d) r)
    call_body : {s r : Scope} {c : Clock} {p n k m : ℕ} {es rs : List Expr} {text low : Text} → Tied s r → LowersAllIn (text_calls (text_of s)) k es rs m → TiedText z text low →
        CallsText z (text_of s) n p text →
        TiedPiece (calls_around r) n (suc n) (Body (Called s c p es text)) (Body (Called (Under r []) c n rs low))

  pub data TiedPieces : (path : List ℕ) → (n m : ℕ) → List Piece → List Piece → Type 0 where
    no_pieces : {path : List ℕ} {n : ℕ} → TiedPieces path n n [] []
    more_pieces : {path : List ℕ} {n m k : ℕ} {p q : Piece} {ps qs : List Piece} → TiedPiece path n m p q → TiedPieces path m k ps qs → TiedPieces path n k (p ∷ ps) (q ∷ qs)
    -- a number that no piece has
    one_on : {path : List ℕ} {n m : ℕ} {ps qs : List Piece} → TiedPieces path (suc n) m ps qs → TiedPieces path n m ps qs

  one_piece : {path : List ℕ} {n m : ℕ} {p q : Piece} → TiedPiece path n m p q → TiedPieces path n m (p ∷ []) (q ∷ [])
  one_piece h = more_pieces h no_pieces

  module _ (w v : Setting) (is : w.clock ≡ z.clock) (names : (f : Name) → written_node z.nodes 0 f ≡ w.node f) (nodes : (f : Name) → TiedOption z (w.node f) (v.node f)) where
    -- own sites, and pieces behind them
    pub record Inner (path : List ℕ) (n m : ℕ) (p q : Piece) : Type 0 where
      pub middle : ℕ
      pub low : n ≤ middle
      pub own : TiedSites (own_site w p) (own_site v q)
      pub order : Ordered (own_site v q)
      pub numbers : AllNumbered path n middle (own_site v q)
      pub inner : TiedPieces path middle m (pieces w p) (pieces v q)

    expressions_tied : (c : Clock) (s r : Scope) {n m : ℕ} {es rs : List Expr} → Tied s r → LowersAllIn (text_calls (text_of s)) n es rs m → TiedPieces (calls_around r) n m (expressions es c s) (expressions rs c (Under r []))
    expressions_tied c s r h no_exprs = no_pieces
    expressions_tied c s r h (more_exprs l ls) = more_pieces (expression h l) (expressions_tied c s r h ls)

    branches_tied : (x : Name) (c : Clock) (s r : Scope) {n m : ℕ} {bs cs : List MergeBranch} → Tied s r → LowersBranchesIn (text_calls (text_of s)) n bs cs m →
        TiedPieces (calls_around r) n m (map (λ b. Expression b.value (c ++ record { tag = b.tag; name = x } ∷ []) s) bs) (map (λ b. Expression b.value (c ++ record { tag = b.tag; name = x } ∷ []) (Under r [])) cs)
    branches_tied x c s r h no_branches = no_pieces
    branches_tied x c s r h (more_branches l ls) = more_pieces (expression h l) (branches_tied x c s r h ls)

    -- a synchronous call has the body of its node
    call_tied : (o u : Option Text) (g : Name) (p n m : ℕ) (c : Clock) (s r : Scope) (es rs : List Expr) → TiedOption z o u → written_node z.nodes 0 g ≡ o →
        slice_get (text_calls (text_of s)) n ≡ Some (record { place = p; name = g }) → Tied s r → LowersAllIn (text_calls (text_of s)) (suc n) es rs m →
        TiedPieces (calls_around r) n m (callee_pieces w (option_map (λ text. (es, text)) o) p c s ++ expressions es c s) (callee_pieces v (option_map (λ text. (rs, text)) u) n c (Under r []) ++ expressions rs c (Under r []))
    call_tied _ _ g p n m c s r es rs no_text e at h l = one_on (expressions_tied c s r h l)
    call_tied _ _ g p n m c s r es rs (both t) e at h l = more_pieces (call_body h l t (record { name = g; at = at; node = e })) (expressions_tied c s r h l)

    -- an expression, by its form
    by_form : (e d : Expr) (f g : Form-F Form Expr MergeBranch) (c : Clock) (s r : Scope) (path : List ℕ) (n m : ℕ) → out-Form e.form ≡ f → out-Form d.form ≡ g →
        form_site w f e c s ≡ [] → form_site v g d c (Under r []) ≡ [] → TiedPieces path n m (form_pieces w f e c s) (form_pieces v g d c (Under r [])) →
        Inner path n m (Expression e c s) (Expression d c (Under r []))
    by_form e d f g c s r path n m p q i j k =
        let own : own_site w (Expression e c s) ≡ [] = ap (λ (z : Form-F Form Expr MergeBranch). form_site w z e c s) p ∙ i in
        let others : own_site v (Expression d c (Under r [])) ≡ [] = ap (λ (z : Form-F Form Expr MergeBranch). form_site v z d c (Under r [])) q ∙ j in
        record {
          middle = n;
          low = omega arith;
          own = subst (λ (l : List Site). TiedSites l (own_site v (Expression d c (Under r [])))) (sym own) (subst (λ (l : List Site). TiedSites [] l) (sym others) no_sites);
          order = subst (λ (l : List Site). Ordered l) (sym others) tt;
          numbers = subst (λ (l : List Site). AllNumbered path n n l) (sym others) tt;
          inner = subst (λ (z : Form-F Form Expr MergeBranch). TiedPieces path n m (form_pieces w z e c s) (pieces v (Expression d c (Under r [])))) (sym p)
              (subst (λ (z : Form-F Form Expr MergeBranch). TiedPieces path n m (form_pieces w f e c s) (form_pieces v z d c (Under r []))) (sym q) k);
        }

    -- what an async call has itself
    record Own (path : List ℕ) (n : ℕ) (fs bs : List Site) : Type 0 where
      own : TiedSites fs bs
      order : Ordered bs
      numbers : AllNumbered path n (suc n) bs

    async_tied : (o u : Option Text) (g : Name) (q p n m : ℕ) (c : Clock) (s r : Scope) (es rs : List Expr) → TiedOption z o u → written_node z.nodes 0 g ≡ o →
        slice_get (text_calls (text_of s)) n ≡ Some (record { place = p; name = g }) → Tied s r → LowersAllIn (text_calls (text_of s)) (suc n) es rs m →
        Own (calls_around r) n (async_site w o q es p c s) (async_site v u q rs n c (Under r []))
    async_tied _ _ g q p n m c s r es rs no_text e at h l = record { own = no_sites; order = tt; numbers = tt }
    async_tied _ _ g q p n m c s r es rs (both t) e at h l = record {
      own = more_sites (tied_site h l t (record { name = g; at = at; node = e })) no_sites;
      order = (tt, tt);
      numbers = (record { number = n; rest = []; is = refl; from = omega arith; to = omega arith }, tt);
    }

    async_inner : (q : ℕ) (g : Name) (p : Place) (n m : ℕ) (c : Clock) (s r : Scope) (es rs : List Expr) → slice_get (text_calls (text_of s)) n ≡ Some (call_at p g) → Tied s r → LowersAllIn (text_calls (text_of s)) (suc n) es rs m →
        Inner (calls_around r) n m (Expression (record { place = p; form = form.AsyncCall q g es }) c s) (Expression (numbered n (form.AsyncCall q g rs)) c (Under r []))
    async_inner q g p n m c s r es rs i h l =
        let e : Expr = record { place = p; form = form.AsyncCall q g es } in
        let d : Expr = numbered n (form.AsyncCall q g rs) in
        let a = async_tied (w.node g) (v.node g) g q p.0 n m c s r es rs (nodes g) (names g) i h l in
        let own : own_site w (Expression e c s) ≡ async_site w (w.node g) q es p.0 c s = ap (λ (z : Form-F Form Expr MergeBranch). form_site w z e c s) (out_AsyncCall q g es) in
        let others : own_site v (Expression d c (Under r [])) ≡ async_site v (v.node g) q rs n c (Under r []) = ap (λ (z : Form-F Form Expr MergeBranch). form_site v z d c (Under r [])) (out_AsyncCall q g rs) in
        record {
          middle = suc n;
          low = omega arith;
          own = subst (λ (x : List Site). TiedSites x (own_site v (Expression d c (Under r [])))) (sym own) (subst (λ (x : List Site). TiedSites (async_site w (w.node g) q es p.0 c s) x) (sym others) a.own);
          order = subst (λ (x : List Site). Ordered x) (sym others) a.order;
          numbers = subst (λ (x : List Site). AllNumbered (calls_around r) n (suc n) x) (sym others) a.numbers;
          inner = subst (λ (z : Form-F Form Expr MergeBranch). TiedPieces (calls_around r) (suc n) m (form_pieces w z e c s) (pieces v (Expression d c (Under r [])))) (sym (out_AsyncCall q g es))
              (subst (λ (z : Form-F Form Expr MergeBranch). TiedPieces (calls_around r) (suc n) m (expressions es c s) (form_pieces v z d c (Under r []))) (sym (out_AsyncCall q g rs)) (expressions_tied c s r h l));
        }

    two : {n m k : ℕ} {a b d e : Expr} (c : Clock) (s r : Scope) → Tied s r → LowersIn (text_calls (text_of s)) n a b m → LowersIn (text_calls (text_of s)) m d e k →
        TiedPieces (calls_around r) n k (expressions (a ∷ d ∷ []) c s) (expressions (b ∷ e ∷ []) c (Under r []))
    two c s r h l i = more_pieces (expression h l) (one_piece (expression h i))

    pub expression_inner : {e d : Expr} {n m : ℕ} (c : Clock) (s r : Scope) → Tied s r → LowersIn (text_calls (text_of s)) n e d m → Inner (calls_around r) n m (Expression e c s) (Expression d c (Under r []))
    expression_inner c s r h (const {k = k}) = by_form _ _ _ _ c s r (calls_around r) _ _ (out_Const k) (out_Const k) refl refl no_pieces
    expression_inner c s r h (var {x = x}) = by_form _ _ _ _ c s r (calls_around r) _ _ (out_Var x) (out_Var x) refl refl no_pieces
    expression_inner c s r h (unary {op = op} {a = a} {b = b} l) = by_form _ _ _ _ c s r (calls_around r) _ _ (out_Unary op a) (out_Unary op b) refl refl (one_piece (expression h l))
    expression_inner c s r h (binary {op = op} {a = a} {b = b} {c = c'} {d = d} l i) = by_form _ _ _ _ c s r (calls_around r) _ _ (out_Binary op a c') (out_Binary op b d) refl refl (two c s r h l i)
    expression_inner c s r h (choice {i = i} {j = j} {a = a} {b = b} {c = c'} {d = d} l o p) =
        by_form _ _ _ _ c s r (calls_around r) _ _ (out_If i a c') (out_If j b d) refl refl (more_pieces (expression h l) (two c s r h o p))
    expression_inner c s r h (fby {a = a} {b = b} {c = c'} {d = d} l i) = by_form _ _ _ _ c s r (calls_around r) _ _ (out_Fby a c') (out_Fby b d) refl refl (two c s r h l i)
    expression_inner c s r h (pre {a = a} {b = b} l) = by_form _ _ _ _ c s r (calls_around r) _ _ (out_Pre a) (out_Pre b) refl refl (one_piece (expression h l))
    expression_inner c s r h (arrow {a = a} {b = b} {c = c'} {d = d} l i) = by_form _ _ _ _ c s r (calls_around r) _ _ (out_Arrow a c') (out_Arrow b d) refl refl (two c s r h l i)
    expression_inner c s r h (when {a = a} {b = b} {tag = tag} {x = x} l) = by_form _ _ _ _ c s r (calls_around r) _ _ (out_When a tag x) (out_When b tag x) refl refl (one_piece (expression h l))
    expression_inner c s r h (merge {x = x} {bs = bs} {cs = cs} l) = by_form _ _ _ _ c s r (calls_around r) _ _ (out_Merge x bs) (out_Merge x cs) refl refl (branches_tied x c s r h l)
    expression_inner {n = n} {m = m} c s r h (call {p = p} {g = g} {es = es} {rs = rs} i l) =
        by_form _ _ _ _ c s r (calls_around r) n m (out_Call g es) (out_Call g rs) refl refl (call_tied (w.node g) (v.node g) g p.0 n m c s r es rs (nodes g) (names g) i h l)
    expression_inner {n = n} {m = m} c s r h (async_call {p = p} {q = q} {g = g} {es = es} {rs = rs} i l) = async_inner q g p n m c s r es rs i h l
    expression_inner c s r h (async_const {k = k}) = by_form _ _ _ _ c s r (calls_around r) _ _ (out_AsyncConst k) (out_AsyncConst k) refl refl no_pieces
    expression_inner c s r h (get {a = a} {b = b} l) = by_form _ _ _ _ c s r (calls_around r) _ _ (out_Get a) (out_Get b) refl refl (one_piece (expression h l))

    pub statement_inner : {right d : Expr} {n m : ℕ} (p : Place) (left : List Name) (c : Clock) (s r : Scope) → Tied s r → LowersIn (text_calls (text_of s)) n right d m → sites.clock_of_left w left s ≡ c →
        Inner (calls_around r) n m (Statement (equation.Define p left right) s) (Core_statement (core_equation p left c d) r)
    statement_inner {right = right} {d = d} {n = n} {m = m} p left c s r h l on = record {
      middle = n;
      low = omega arith;
      own = no_sites;
      order = tt;
      numbers = tt;
      inner = subst (λ (f : Equation-F Equation Block Branch State). TiedPieces (calls_around r) n m (equation_pieces w f s) (Expression d c (Under r []) ∷ [])) (sym (out_define p left right))
          (subst (λ (z : Clock). TiedPieces (calls_around r) n m (Expression right z s ∷ []) (Expression d c (Under r []) ∷ [])) (sym on) (one_piece (expression h l)));
    }

    -- ---- bodies

    equations_inner : (s r : Scope) {own : Name → Clock} {n m : ℕ} {es : List Equation} {cs : List CoreEquation} → Tied s r →
        ((left : List Name) (y : Setting) → y.clock ≡ z.clock → sites.clock_of_left y left s ≡ clock_of_left own left) → EquationsIn (text_calls (text_of s)) own n es cs m →
        TiedPieces (calls_around r) n m (map (λ e. Statement e s) es) (map (λ e. Core_statement e r) cs)
    equations_inner s r h on no_equations = no_pieces
    equations_inner s r h on (more_equations {left = left} l same ls) = more_pieces (statement h l (on left)) (equations_inner s r h on ls)

    seen_by : (k : ℕ) (node : Node) (low : CoreNode) → TiedNode (z.clock k) node low → (x : Name) (y : Setting) → y.clock ≡ z.clock → clock_seen y x (Top (Written k node)) ≡ z.clock k x
    seen_by k node low t x y e =
        seen_same z y k node low x (subst (λ (c : ℕ → Name → Clock). TiedNode (c k) node low) (sym e) t) ∙ ap (λ (c : ℕ → Name → Clock). c k x) e

    left_by : (k : ℕ) (node : Node) (low : CoreNode) → TiedNode (z.clock k) node low → (left : List Name) (y : Setting) → y.clock ≡ z.clock → sites.clock_of_left y left (Top (Written k node)) ≡ clock_of_left (z.clock k) left
    left_by k node low t [] y e = refl
    left_by k node low t (x ∷ xs) y e = seen_by k node low t x y e

    left_called : (s : Scope) (c : Clock) (p : ℕ) (es : List Expr) (k : ℕ) (node : Node) (low : CoreNode) → TiedNode (z.clock k) node low → (left : List Name) (y : Setting) → y.clock ≡ z.clock →
        sites.clock_of_left y left (Called s c p es (Written k node)) ≡ clock_of_left (z.clock k) left
    left_called s c p es k node low t [] y e = refl
    left_called s c p es k node low t (x ∷ xs) y e = seen_by k node low t x y e

    -- the calls of a body are numbered from 0
    abbrev pub BodyInner : Scope → Scope → Type 0
    BodyInner s r = (end : ℕ) × TiedPieces (calls_around r) 0 end (pieces w (Body s)) (pieces v (Body r))

    pub body_inner : (s r : Scope) → Tied s r → BodyInner s r
    body_inner _ _ (top e (tied_text {k = k} {node = node} {low = low} at low_at t)) =
        (t.calls, equations_inner (Top (Written k node)) (Top (Lowered low)) (top e (tied_text at low_at t)) (left_by k node low t) (node_in (z.clock k) node low t))
    body_inner _ _ (called {s = s} {r = r} {c = c} {p = p} {n = n} {es = es} {rs = rs} h l (tied_text {k = k} {node = node} {low = low} at low_at t) i) = (
      t.calls,
      equations_inner (Called s c p es (Written k node)) (Called (Under r []) c n rs (Lowered low)) (called h l (tied_text at low_at t) i) (left_called s c p es k node low t)
          (node_in (z.clock k) node low t),
    )
