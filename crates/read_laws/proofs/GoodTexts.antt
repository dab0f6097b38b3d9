-- Expressions, equations and blocks whose numbers have 32 bits and whose plain equations have a name on the left.
use Rattle.std.proofs.Common.{◌≡◌, refl, ◌≢◌, ℕ, Bool, true, false, List, [], ◌∷◌, ◌++◌, map, sym, subst, All}
use Rattle.std.specs.List.{flat_map}
use Rattle.std.proofs.lemmas.List.Elements.{All-nil, All-cons}
use Rattle.hept_ast.specs.Parts.{Part, Plain, Transition, below, inside, expressions, expressions_of, parts, parts_of, declared_in, variables}
use Rattle.hept_ast.specs.InnerParts.{part_in, inner_parts, parts_of_block, parts_of_state, state_names, escape_parts, expressions_in}
use Rattle.hept_ast.specs.declared.name.Place.{Place}
use Rattle.hept_ast.specs.declared.tree.Const.{Const}
use Rattle.hept_ast.specs.declared.tree.Decl.{Decl}
use Rattle.hept_ast.specs.declared.tree.Expr.{Expr}
use Rattle.hept_ast.specs.declared.tree.MergeBranch.{MergeBranch}
use Rattle.hept_ast.specs.declared.tree.Form.{Form, out-Form}
use Rattle.hept_ast.specs.declared.tree.Form.TheOpen.{Form-F}
use Rattle.hept_ast.specs.declared.tree.Form.TheVariants as form
use Rattle.hept_ast.specs.declared.tree.Tag.{Tag}
use Rattle.hept_ast.specs.declared.tree.UnaryOp.{UnaryOp}
use Rattle.hept_ast.specs.declared.tree.BinaryOp.{BinaryOp}
use Rattle.hept_ast.specs.declared.tree.Block as tree
use Rattle.hept_ast.specs.declared.tree.Branch.{Branch}
use Rattle.hept_ast.specs.declared.tree.State.{State}
use Rattle.hept_ast.specs.declared.tree.Escape.{Escape}
use Rattle.hept_ast.specs.declared.tree.Node.{Node}
use Rattle.hept_ast.specs.declared.tree.Equation as eq
use Rattle.hept_ast.specs.declared.tree.Equation.{Equation}
use Rattle.hept_ast.proofs.FormsOf.{below-Const, below-Var, below-Last, below-Unary, below-Binary, below-If, below-Fby, below-Pre, below-Arrow, below-When, below-Merge, below-Call, below-AsyncCall, below-AsyncConst, below-Get}
use Rattle.hept_ast.proofs.InnerParts.{inner-Define, inner-Switch, inner-Reset, inner-Automaton}
use Rattle.hept_ast.specs.TypedValues.{FitsConst}
use Rattle.accepted_meaning.specs.Ranges.{FitsInit, HasLeft}
use Rattle.sound_expressions.specs.Demands.{FitsForm}
use Rattle.read_laws.proofs.FormPlaces.{out_const, out_var, out_last, out_unary, out_binary, out_if, out_fby, out_pre, out_arrow, out_when, out_merge, out_call, out_async_call, out_async_const, out_get}

-- ---- lists

abbrev pub Every : {A : Type 0} → (A → Type 0) → List A → Type 0
Every P [] = Unit {0}
Every P (x ∷ xs) = P x × Every P xs

module _ {A : Type 0} (P : A → Type 0) where
  pub every_append : (xs ys : List A) → Every P xs → Every P ys → Every P (xs ++ ys)
  every_append [] ys h k = k
  every_append (x ∷ xs) ys h k = (h.0, every_append xs ys h.1 k)

  pub every_all : (xs : List A) → Every P xs → All P xs
  every_all [] h = All-nil P
  every_all (x ∷ xs) h = All-cons P x xs h.0 (every_all xs h.1)

module _ {A B : Type 0} (P : B → Type 0) (f : A → List B) where
  pub every_flat : (xs : List A) → Every (λ x. Every P (f x)) xs → Every P (flat_map f xs)
  every_flat [] h = tt
  every_flat (x ∷ xs) h = every_append P (f x) (flat_map f xs) h.0 (every_flat xs h.1)

pub every_map : {A B : Type 0} (P : B → Type 0) (f : A → B) (xs : List A) → Every P (map f xs) → Every (λ x. P (f x)) xs
every_map P f [] h = tt
every_map P f (x ∷ xs) h = (h.0, every_map P f xs h.1)

pub every_mapped : {A B : Type 0} (P : B → Type 0) (f : A → B) (xs : List A) → Every (λ x. P (f x)) xs → Every P (map f xs)
every_mapped P f [] h = tt
every_mapped P f (x ∷ xs) h = (h.0, every_mapped P f xs h.1)

pub every_also : {A : Type 0} (P Q : A → Type 0) → ((x : A) → P x → Q x) → (xs : List A) → Every P xs → Every Q xs
every_also P Q go [] h = tt
every_also P Q go (x ∷ xs) h = (go x h.0, every_also P Q go xs h.1)

-- ---- expressions

abbrev pub FitsHere : Expr → Type 0
FitsHere e = FitsForm (out-Form e.form)

abbrev pub GoodExpr : Expr → Type 0
GoodExpr e = Every FitsHere (inside e)

-- a form, wherever it stands
abbrev pub GoodForm : Form → Type 0
GoodForm f = FitsForm (out-Form f) × Every FitsHere (below f)

abbrev pub GoodBranchOf : MergeBranch → Type 0
GoodBranchOf b = GoodExpr b.value

good_by : (f : Form) (v : Form-F Form Expr MergeBranch) (xs : List Expr) → out-Form f ≡ v → below f ≡ xs → FitsForm v → Every FitsHere xs → GoodForm f
good_by f v xs e h fits every = (subst FitsForm (sym e) fits, subst (Every FitsHere) (sym h) every)

two : (a b : Expr) → GoodExpr a → GoodExpr b → Every FitsHere (inside a ++ inside b)
two a b h k = every_append FitsHere (inside a) (inside b) h k

pub good_const : (k : Const) → FitsConst k → GoodForm (form.Const k)
good_const k h = good_by (form.Const k) (Form-F.Const k) [] (out_const k) (below-Const k) h tt

pub good_var : (x : List ℕ) → GoodForm (form.Var x)
good_var x = good_by (form.Var x) (Form-F.Var x) [] (out_var x) (below-Var x) tt tt

pub good_last : (x : List ℕ) → GoodForm (form.Last x)
good_last x = good_by (form.Last x) (Form-F.Last x) [] (out_last x) (below-Last x) tt tt

pub good_unary : (op : UnaryOp) (a : Expr) → GoodExpr a → GoodForm (form.Unary op a)
good_unary op a h = good_by (form.Unary op a) (Form-F.Unary op a) (inside a) (out_unary op a) (below-Unary op a) tt h

pub good_binary : (op : BinaryOp) (a b : Expr) → GoodExpr a → GoodExpr b → GoodForm (form.Binary op a b)
good_binary op a b h k = good_by (form.Binary op a b) (Form-F.Binary op a b) (inside a ++ inside b) (out_binary op a b) (below-Binary op a b) tt (two a b h k)

pub good_if : (c a b : Expr) → GoodExpr c → GoodExpr a → GoodExpr b → GoodForm (form.If c a b)
good_if c a b g h k = good_by (form.If c a b) (Form-F.If c a b) (inside c ++ inside a ++ inside b) (out_if c a b) (below-If c a b) tt
    (every_append FitsHere (inside c ++ inside a) (inside b) (two c a g h) k)

pub good_fby : (a b : Expr) → GoodExpr a → GoodExpr b → GoodForm (form.Fby a b)
good_fby a b h k = good_by (form.Fby a b) (Form-F.Fby a b) (inside a ++ inside b) (out_fby a b) (below-Fby a b) tt (two a b h k)

pub good_pre : (a : Expr) → GoodExpr a → GoodForm (form.Pre a)
good_pre a h = good_by (form.Pre a) (Form-F.Pre a) (inside a) (out_pre a) (below-Pre a) tt h

pub good_arrow : (a b : Expr) → GoodExpr a → GoodExpr b → GoodForm (form.Arrow a b)
good_arrow a b h k = good_by (form.Arrow a b) (Form-F.Arrow a b) (inside a ++ inside b) (out_arrow a b) (below-Arrow a b) tt (two a b h k)

pub good_when : (a : Expr) (tag : Tag) (x : List ℕ) → GoodExpr a → GoodForm (form.When a tag x)
good_when a tag x h = good_by (form.When a tag x) (Form-F.When a tag x) (inside a) (out_when a tag x) (below-When a tag x) tt h

pub good_merge : (x : List ℕ) (bs : List MergeBranch) → Every GoodBranchOf bs → GoodForm (form.Merge x bs)
good_merge x bs h = good_by (form.Merge x bs) (Form-F.Merge x bs) (flat_map (λ b. inside b.value) bs) (out_merge x bs) (below-Merge x bs) tt (every_flat FitsHere (λ b. inside b.value) bs h)

pub good_call : (f : List ℕ) (args : List Expr) → Every GoodExpr args → GoodForm (form.Call f args)
good_call f args h = good_by (form.Call f args) (Form-F.Call f args) (flat_map inside args) (out_call f args) (below-Call f args) tt (every_flat FitsHere inside args h)

pub good_async_call : (q : ℕ) (f : List ℕ) (args : List Expr) → Every GoodExpr args → GoodForm (form.AsyncCall q f args)
good_async_call q f args h = good_by (form.AsyncCall q f args) (Form-F.AsyncCall q f args) (flat_map inside args) (out_async_call q f args) (below-AsyncCall q f args) tt (every_flat FitsHere inside args h)

pub good_async_const : (k : Const) → FitsConst k → GoodForm (form.AsyncConst k)
good_async_const k h = good_by (form.AsyncConst k) (Form-F.AsyncConst k) [] (out_async_const k) (below-AsyncConst k) h tt

pub good_get : (a : Expr) → GoodExpr a → GoodForm (form.Get a)
good_get a h = good_by (form.Get a) (Form-F.Get a) (inside a) (out_get a) (below-Get a) tt h

-- ---- parts

abbrev pub GoodDecl : Decl → Type 0
GoodDecl d = FitsInit d.init

abbrev pub GoodPart : Part → Type 0
GoodPart q = Every FitsHere (expressions_in q) × Every GoodDecl (declared_in q) × HasLeft q

abbrev pub GoodEquation : Equation → Type 0
GoodEquation e = Every GoodPart (inner_parts e)

abbrev pub GoodBlock : tree.Block → Type 0
GoodBlock b = Every GoodPart (parts_of_block b)

abbrev pub GoodBranch : Branch → Type 0
GoodBranch b = GoodBlock b.block

abbrev pub GoodEscape : Escape → Type 0
GoodEscape x = GoodExpr x.condition

abbrev pub GoodState : State → Type 0
GoodState q = GoodBlock q.block × (Every GoodEscape q.weak × Every GoodEscape q.strong)

one : (e : Expr) → GoodExpr e → Every FitsHere (inside e ++ [])
one e h = every_append FitsHere (inside e) [] h tt

pub good_block : (ds : List Decl) (es : List Equation) → Every GoodDecl ds → Every GoodEquation es → GoodBlock (record { locals = ds; body = es })
good_block ds es h k = ((tt, h, tt), every_flat GoodPart inner_parts es k)

has_left : (p : Place) (xs : List (List ℕ)) (right : Expr) → xs ≢ [] → HasLeft (Plain p.0 xs right)
has_left p [] right some = absurd (some refl)
has_left p (x ∷ xs) right some = tt

pub good_define : (p : Place) (xs : List (List ℕ)) (right : Expr) → xs ≢ [] → GoodExpr right → GoodEquation (eq.Define p xs right)
good_define p xs right some h = subst (Every GoodPart) (sym (inner-Define p xs right)) ((one right h, tt, has_left p xs right some), tt)

pub good_switch : (p : Place) (on : Expr) (bs : List Branch) → GoodExpr on → Every GoodBranch bs → GoodEquation (eq.Switch p on bs)
good_switch p on bs h k = subst (Every GoodPart) (sym (inner-Switch p on bs)) ((one on h, tt, tt), every_flat GoodPart (λ b. parts_of_block b.block) bs k)

pub good_reset : (p : Place) (block : tree.Block) (every : Expr) → GoodBlock block → GoodExpr every → GoodEquation (eq.Reset p block every)
good_reset p block every h k = subst (Every GoodPart) (sym (inner-Reset p block every)) ((one every k, tt, tt), h)

good_escapes : (strong : Bool) (states : List State) (es : List Escape) → Every GoodEscape es → Every GoodPart (escape_parts strong states es)
good_escapes strong states es h = every_mapped GoodPart (Transition strong (state_names states)) es (every_also GoodEscape (λ e. GoodPart (Transition strong (state_names states) e)) (λ e k. (one e.condition k, tt, tt)) es h)

good_state : (states : List State) (q : State) → GoodState q → Every GoodPart (parts_of_state states q)
good_state states q h =
    every_append GoodPart (parts_of_block q.block ++ escape_parts false states q.weak) (escape_parts true states q.strong)
    (every_append GoodPart (parts_of_block q.block) (escape_parts false states q.weak) h.0 (good_escapes false states q.weak h.1.0))
    (good_escapes true states q.strong h.1.1)

pub good_automaton : (p : Place) (qs : List State) → Every GoodState qs → GoodEquation (eq.Automaton p qs)
good_automaton p qs h =
    subst (Every GoodPart) (sym (inner-Automaton p qs)) ((tt, tt, tt), every_flat GoodPart (parts_of_state qs) qs (every_also GoodState (λ q. Every GoodPart (parts_of_state qs q)) (good_state qs) qs h))

-- ---- nodes

abbrev pub GoodNode : Node → Type 0
GoodNode n = (Every GoodDecl n.inputs × Every GoodDecl n.outputs) × GoodBlock n.block

placed : (es : List Equation) → Every GoodPart (flat_map inner_parts es) → Every (λ q. GoodPart (part_in q)) (flat_map (parts_of []) es)
placed [] h = tt
placed (e ∷ es) h = every_append (λ q. GoodPart (part_in q)) (parts_of [] e) (flat_map (parts_of []) es) (every_map GoodPart part_in (parts_of [] e) (first (inner_parts e) (flat_map inner_parts es) h)) (placed es (rest (inner_parts e) (flat_map inner_parts es) h))
  where
    first : (xs ys : List Part) → Every GoodPart (xs ++ ys) → Every GoodPart xs
    first [] ys h = tt
    first (x ∷ xs) ys h = (h.0, first xs ys h.1)

    rest : (xs ys : List Part) → Every GoodPart (xs ++ ys) → Every GoodPart ys
    rest [] ys h = h
    rest (x ∷ xs) ys h = rest xs ys h.1

pub good_parts : (n : Node) → GoodNode n → Every (λ q. GoodPart (part_in q)) (parts n)
good_parts n h = ((tt, every_append GoodDecl n.outputs n.block.locals h.0.1 h.1.0.1, tt), placed n.block.body h.1.1)

pub good_expressions : (n : Node) → GoodNode n → Every FitsHere (expressions n)
good_expressions n h =
    every_flat FitsHere (λ q. flat_map inside (expressions_of q.part)) (parts n)
    (every_also (λ q. GoodPart (part_in q)) (λ q. Every FitsHere (flat_map inside (expressions_of q.part))) (λ q k. k.0) (parts n) (good_parts n h))

pub good_variables : (n : Node) → GoodNode n → Every GoodDecl (variables n)
good_variables n h =
    every_append GoodDecl n.inputs (flat_map (λ q. declared_in q.part) (parts n)) h.0.0
    (every_flat GoodDecl (λ q. declared_in q.part) (parts n) (every_also (λ q. GoodPart (part_in q)) (λ q. Every GoodDecl (declared_in q.part)) (λ q k. k.1) (parts n) (good_parts n h)))
