-- In a text in which no two calls have one place, a place tells a call.
use Rattle.std.proofs.Common.{◌≡◌, ℕ, zero, suc, ◌+◌, List, [], ◌∷◌, ◌++◌, Option, Some, None, map, refl, sym, ap, subst, ◌∙◌, arith, append_assoc, append-nil}
use Rattle.std.specs.Prelude.{slice_get}
use Rattle.std.specs.List.{concat}
use Rattle.std.specs.Option.{option_map}
use Rattle.hept_ast.specs.Scopes.{Clock, Text, Written, Lowered, Scope, Top, Called, In_branch, In_body, In_state, text_of, block_of, block_or_none}
use Rattle.hept_ast.specs.Meaning.{Setting, call_of}
use Rattle.hept_ast.specs.Sites.{Piece, Expression, Statement, Core_statement, Body, expressions, conditions, state_pieces, equation_pieces, body_pieces}
use Rattle.hept_ast.specs.CallPlaces.{form_places, expr_places, condition_places, equation_step, block_step, branch_step, state_step, block_places, equation_places, text_places}
use Rattle.hept_ast.specs.Paths.{IsAmong, at_head, in_tail, form_inside, inside, StandsIn, itself, deeper, IsBodyOfNode, at_body, IsFrame, whole_text, of_call, LeftsAgree, AllDiffer, PlacesDiffer, PlacesTellCalls}
use Rattle.hept_ast.specs.declared.name.Place.{Place}
use Rattle.hept_ast.specs.declared.tree.Expr.{Expr, fold_out-Expr}
use Rattle.hept_ast.specs.declared.tree.MergeBranch.{MergeBranch, fold-MergeBranch, fold_out-MergeBranch}
use Rattle.hept_ast.specs.declared.tree.Form.{Form, out-Form, fold-Form, fold_out-Form, map-Form}
use Rattle.hept_ast.specs.declared.tree.Form.TheOpen.{Form-F}
use Rattle.hept_ast.specs.declared.tree.Escape.{Escape}
use Rattle.hept_ast.specs.declared.tree.Block.{Block, fold_out-Block}
use Rattle.hept_ast.specs.declared.tree.Branch.{Branch, fold-Branch, fold_out-Branch}
use Rattle.hept_ast.specs.declared.tree.State.{State, fold-State, fold_out-State}
use Rattle.hept_ast.specs.declared.tree.Equation.{Equation, out-Equation, fold_out-Equation, map-Equation}
use Rattle.hept_ast.specs.declared.tree.Equation.TheOpen.{Equation-F}
use Rattle.hept_ast.specs.declared.tree.CoreEquation.{CoreEquation}
use Rattle.hept_ast.specs.declared.tree.Node.{Node}
use Rattle.hept_ast.proofs.CallAlone.{shift}
use Rattle.hept_ast.proofs.Reaching.{World, Good_piece, Good_all, good_at, good_inside_form, good_inside_equation, good_inside_body, good_inside_core}

-- ---- the places of a form

abbrev pub own_place : Form-F Form Expr MergeBranch → Place → List ℕ
own_place (Form-F.Call f args) p = p.0 ∷ []
own_place (Form-F.AsyncCall q f args) p = p.0 ∷ []
own_place _ p = []

abbrev pub body_places : Text → Scope → List ℕ
body_places (Written n node) s = block_places (block_of s)
body_places (Lowered node) s = concat (map (λ e. expr_places e.right) node.equations)

abbrev pub piece_places : Piece → List ℕ
piece_places (Expression e clock s) = expr_places e
piece_places (Statement e s) = equation_places e
piece_places (Core_statement e s) = expr_places e.right
piece_places (Body s) = body_places (text_of s) s

abbrev pub all_places : List Piece → List ℕ
all_places [] = []
all_places (p ∷ ps) = piece_places p ++ all_places ps

all_append : (ps qs : List Piece) → all_places (ps ++ qs) ≡ all_places ps ++ all_places qs
all_append [] qs = refl
all_append (p ∷ ps) qs = ap (λ (x : List ℕ). piece_places p ++ x) (all_append ps qs) ∙ sym (append_assoc (piece_places p) (all_places ps) (all_places qs))

map_same : {A B : Type 0} {f g : A → B} → ((x : A) → f x ≡ g x) → (xs : List A) → map f xs ≡ map g xs
map_same e [] = refl
map_same e (x ∷ xs) = let h = e x in let t = map_same e xs in cc

-- the places of a form, from those of its expressions
abbrev pub form_view : Form-F Form Expr MergeBranch → Place → List ℕ
form_view (Form-F.Const k) p = []
form_view (Form-F.Var x) p = []
form_view (Form-F.Last x) p = []
form_view (Form-F.Unary op a) p = expr_places a
form_view (Form-F.Binary op a b) p = expr_places a ++ expr_places b
form_view (Form-F.If c a b) p = expr_places c ++ (expr_places a ++ expr_places b)
form_view (Form-F.Fby a b) p = expr_places a ++ expr_places b
form_view (Form-F.Pre a) p = expr_places a
form_view (Form-F.Arrow a b) p = expr_places a ++ expr_places b
form_view (Form-F.When a tag x) p = expr_places a
form_view (Form-F.Merge x branches) p = concat (map (λ b. expr_places b.value) branches)
form_view (Form-F.Call f args) p = p.0 ∷ concat (map expr_places args)
form_view (Form-F.AsyncCall q f args) p = p.0 ∷ concat (map expr_places args)
form_view (Form-F.AsyncConst k) p = []
form_view (Form-F.Get a) p = expr_places a

by_branch : (b : MergeBranch) → fold-MergeBranch (Place → List ℕ) (List ℕ) (List ℕ) form_places (λ x. x.form x.place) (λ d. d.value) b ≡ expr_places b.value
by_branch b = fold_out-MergeBranch (Place → List ℕ) (List ℕ) (List ℕ) form_places (λ x. x.form x.place) (λ d. d.value) b

pub expr_is : (e : Expr) → expr_places e ≡ form_view (out-Form e.form) e.place
expr_is e =
    fold_out-Expr (Place → List ℕ) (List ℕ) (List ℕ) form_places (λ x. x.form x.place) (λ b. b.value) e
    ∙ ap (λ (g : Place → List ℕ). g e.place) (fold_out-Form (Place → List ℕ) (List ℕ) (List ℕ) form_places (λ x. x.form x.place) (λ b. b.value) e.form)
    ∙ by_view (out-Form e.form) e.place
  where
    by_view : (v : Form-F Form Expr MergeBranch) (q : Place) → form_places (map-Form Form Expr MergeBranch (Place → List ℕ) (List ℕ) (List ℕ)
        (fold-Form (Place → List ℕ) (List ℕ) (List ℕ) form_places (λ x. x.form x.place) (λ b. b.value)) expr_places
        (fold-MergeBranch (Place → List ℕ) (List ℕ) (List ℕ) form_places (λ x. x.form x.place) (λ d. d.value)) v) q ≡ form_view v q
    by_view (Form-F.Const k) q = refl
    by_view (Form-F.Var x) q = refl
    by_view (Form-F.Last x) q = refl
    by_view (Form-F.Unary op a) q = refl
    by_view (Form-F.Binary op a b) q = refl
    by_view (Form-F.If c a b) q = refl
    by_view (Form-F.Fby a b) q = refl
    by_view (Form-F.Pre a) q = refl
    by_view (Form-F.Arrow a b) q = refl
    by_view (Form-F.When a tag x) q = refl
    by_view (Form-F.Merge x branches) q = ap concat (map_same by_branch branches)
    by_view (Form-F.Call f args) q = refl
    by_view (Form-F.AsyncCall n f args) q = refl
    by_view (Form-F.AsyncConst k) q = refl
    by_view (Form-F.Get a) q = refl

pub expressions_sum : (es : List Expr) (clock : Clock) (s : Scope) → concat (map expr_places es) ≡ all_places (expressions es clock s)
expressions_sum [] clock s = refl
expressions_sum (e ∷ es) clock s = ap (λ (x : List ℕ). expr_places e ++ x) (expressions_sum es clock s)

branches_sum : (bs : List MergeBranch) (clock : MergeBranch → Clock) (s : Scope) → concat (map (λ b. expr_places b.value) bs) ≡ all_places (map (λ b. Expression b.value (clock b) s) bs)
branches_sum [] clock s = refl
branches_sum (b ∷ bs) clock s = ap (λ (x : List ℕ). expr_places b.value ++ x) (branches_sum bs clock s)

pub form_sum : (w : Setting) (f : Form-F Form Expr MergeBranch) (e : Expr) (clock : Clock) (s : Scope) (p : Place) → form_view f p ≡ own_place f p ++ all_places (form_inside w f e clock s)
form_sum w (Form-F.Const k) e clock s p = refl
form_sum w (Form-F.Var x) e clock s p = refl
form_sum w (Form-F.Last x) e clock s p = refl
form_sum w (Form-F.Unary op a) e clock s p = sym (append-nil (expr_places a))
form_sum w (Form-F.Binary op a b) e clock s p = ap (λ (x : List ℕ). expr_places a ++ x) (sym (append-nil (expr_places b)))
form_sum w (Form-F.If c a b) e clock s p = ap (λ (x : List ℕ). expr_places c ++ (expr_places a ++ x)) (sym (append-nil (expr_places b)))
form_sum w (Form-F.Fby a b) e clock s p = ap (λ (x : List ℕ). expr_places a ++ x) (sym (append-nil (expr_places b)))
form_sum w (Form-F.Pre a) e clock s p = sym (append-nil (expr_places a))
form_sum w (Form-F.Arrow a b) e clock s p = ap (λ (x : List ℕ). expr_places a ++ x) (sym (append-nil (expr_places b)))
form_sum w (Form-F.When a tag x) e clock s p = sym (append-nil (expr_places a))
form_sum w (Form-F.Merge x branches) e clock s p = branches_sum branches (λ b. clock ++ record { tag = b.tag; name = x } ∷ []) s
form_sum w (Form-F.Call f args) e clock s p = ap (λ (x : List ℕ). p.0 ∷ x) (expressions_sum args clock s)
form_sum w (Form-F.AsyncCall q f args) e clock s p = ap (λ (x : List ℕ). p.0 ∷ x) (expressions_sum args clock s)
form_sum w (Form-F.AsyncConst k) e clock s p = refl
form_sum w (Form-F.Get a) e clock s p = sym (append-nil (expr_places a))

-- ---- the places of blocks

block_is : (b : Block) → block_places b ≡ concat (map equation_places b.body)
block_is b = fold_out-Block (List ℕ) (List ℕ) (List ℕ) (List ℕ) equation_step block_step branch_step state_step b

branch_is : (b : Branch) → fold-Branch (List ℕ) (List ℕ) (List ℕ) (List ℕ) equation_step block_step branch_step state_step b ≡ block_places b.block
branch_is b = fold_out-Branch (List ℕ) (List ℕ) (List ℕ) (List ℕ) equation_step block_step branch_step state_step b

abbrev state_places : State → List ℕ
state_places q = block_places q.block ++ (condition_places q.weak ++ condition_places q.strong)

state_is : (q : State) → fold-State (List ℕ) (List ℕ) (List ℕ) (List ℕ) equation_step block_step branch_step state_step q ≡ state_places q
state_is q = fold_out-State (List ℕ) (List ℕ) (List ℕ) (List ℕ) equation_step block_step branch_step state_step q

abbrev pub equation_view : Equation-F Equation Block Branch State → List ℕ
equation_view (Equation-F.Define p left right) = expr_places right
equation_view (Equation-F.Switch p on branches) = expr_places on ++ concat (map (λ b. block_places b.block) branches)
equation_view (Equation-F.Reset p block every) = block_places block ++ expr_places every
equation_view (Equation-F.Automaton p states) = concat (map state_places states)

pub equation_is : (e : Equation) → equation_places e ≡ equation_view (out-Equation e)
equation_is e = fold_out-Equation (List ℕ) (List ℕ) (List ℕ) (List ℕ) equation_step block_step branch_step state_step e ∙ go (out-Equation e)
  where
    go : (f : Equation-F Equation Block Branch State) →
        equation_step (map-Equation Equation Block Branch State (List ℕ) (List ℕ) (List ℕ) (List ℕ) equation_places block_places
        (fold-Branch (List ℕ) (List ℕ) (List ℕ) (List ℕ) equation_step block_step branch_step state_step)
        (fold-State (List ℕ) (List ℕ) (List ℕ) (List ℕ) equation_step block_step branch_step state_step) f) ≡ equation_view f
    go (Equation-F.Define p left right) = refl
    go (Equation-F.Switch p on branches) = ap (λ (x : List (List ℕ)). expr_places on ++ concat x) (map_same branch_is branches)
    go (Equation-F.Reset p block every) = refl
    go (Equation-F.Automaton p states) = ap concat (map_same state_is states)

body_is : (s : Scope) (n : ℕ) (node : Node) → text_of s ≡ Written n node → (inner : Scope) → text_of inner ≡ text_of s → piece_places (Body inner) ≡ block_places (block_of inner)
body_is s n node is inner e = ap (λ (text : Text). body_places text inner) (e ∙ is)

bodies_sum : (bs : List Branch) (on : Expr) (s : Scope) (n : ℕ) (node : Node) → text_of s ≡ Written n node →
    concat (map (λ b. block_places b.block) bs) ≡ all_places (map (λ b. Body (In_branch s on b)) bs)
bodies_sum [] on s n node is = refl
bodies_sum (b ∷ bs) on s n node is =
    ap (λ (x : List ℕ). x ++ concat (map (λ d. block_places d.block) bs)) (sym (body_is s n node is (In_branch s on b) refl))
    ∙ ap (λ (x : List ℕ). piece_places (Body (In_branch s on b)) ++ x) (bodies_sum bs on s n node is)

conditions_sum : (es : List Escape) (s : Scope) → condition_places es ≡ all_places (conditions es s)
conditions_sum [] s = refl
conditions_sum (e ∷ es) s = ap (λ (x : List ℕ). expr_places e.condition ++ x) (conditions_sum es s)

states_sum : (qs states : List State) (k : ℕ) (s : Scope) (n : ℕ) (node : Node) → text_of s ≡ Written n node → ((j : ℕ) → slice_get states (shift j k) ≡ slice_get qs j) →
    concat (map state_places qs) ≡ all_places (state_pieces qs states k s)
states_sum [] states k s n node is link = refl
states_sum (q ∷ qs) states k s n node is link =
    let inner : piece_places (Body (In_state s states k)) ≡ block_places q.block =
    body_is s n node is (In_state s states k) refl ∙ ap (λ (o : Option State). block_places (block_or_none o)) (link 0) in
    let conds : condition_places q.weak ++ condition_places q.strong ≡ all_places (conditions q.weak (In_state s states k) ++ conditions q.strong s) =
    ap (λ (x : List ℕ). x ++ condition_places q.strong) (conditions_sum q.weak (In_state s states k))
    ∙ ap (λ (x : List ℕ). all_places (conditions q.weak (In_state s states k)) ++ x) (conditions_sum q.strong s)
    ∙ sym (all_append (conditions q.weak (In_state s states k)) (conditions q.strong s)) in
    let rest : concat (map state_places qs) ≡ all_places (state_pieces qs states (suc k) s) = states_sum qs states (suc k) s n node is (λ j. link (suc j)) in
    append_assoc (block_places q.block) (condition_places q.weak ++ condition_places q.strong) (concat (map state_places qs))
    ∙ ap (λ (x : List ℕ). x ++ ((condition_places q.weak ++ condition_places q.strong) ++ concat (map state_places qs))) (sym inner)
    ∙ ap (λ (x : List ℕ). piece_places (Body (In_state s states k)) ++ (x ++ concat (map state_places qs))) conds
    ∙ ap (λ (x : List ℕ). piece_places (Body (In_state s states k)) ++ (all_places (conditions q.weak (In_state s states k) ++ conditions q.strong s) ++ x)) rest
    ∙ ap (λ (x : List ℕ). piece_places (Body (In_state s states k)) ++ x)
    (sym (all_append (conditions q.weak (In_state s states k) ++ conditions q.strong s) (state_pieces qs states (suc k) s)))

shift_zero : (k n : ℕ) → shift k n ≡ k + n
shift_zero zero n = omega arith
shift_zero (suc k) n = shift_zero k (suc n) ∙ omega arith

equation_sum : (w : Setting) (f : Equation-F Equation Block Branch State) (s : Scope) (n : ℕ) (node : Node) → text_of s ≡ Written n node → equation_view f ≡ all_places (equation_pieces w f s)
equation_sum w (Equation-F.Define p left right) s n node is = sym (append-nil (expr_places right))
equation_sum w (Equation-F.Switch p on branches) s n node is = ap (λ (x : List ℕ). expr_places on ++ x) (bodies_sum branches on s n node is)
equation_sum w (Equation-F.Reset p block every) s n node is =
    ap (λ (x : List ℕ). x ++ expr_places every) (sym (body_is s n node is (In_body s every block) refl))
    ∙ ap (λ (x : List ℕ). piece_places (Body (In_body s every block)) ++ x) (sym (append-nil (expr_places every)))
equation_sum w (Equation-F.Automaton p states) s n node is =
    states_sum states states 0 s n node is (λ j. ap (λ (k : ℕ). slice_get states k) (shift_zero j 0 ∙ omega arith))

statements_sum : (es : List Equation) (s : Scope) → concat (map equation_places es) ≡ all_places (map (λ e. Statement e s) es)
statements_sum [] s = refl
statements_sum (e ∷ es) s = ap (λ (x : List ℕ). equation_places e ++ x) (statements_sum es s)

cores_sum : (es : List CoreEquation) (s : Scope) → concat (map (λ e. expr_places e.right) es) ≡ all_places (map (λ e. Core_statement e s) es)
cores_sum [] s = refl
cores_sum (e ∷ es) s = ap (λ (x : List ℕ). expr_places e.right ++ x) (cores_sum es s)

text_sum : (w : Setting) (text : Text) (s : Scope) → body_places text s ≡ all_places (body_pieces w text s)
text_sum w (Written n node) s = block_is (block_of s) ∙ statements_sum (block_of s).body s
text_sum w (Lowered node) s = cores_sum node.equations s

abbrev pub own_places : Piece → List ℕ
own_places (Expression e clock s) = own_place (out-Form e.form) e.place
own_places _ = []

pub piece_sum : (c : World) (piece : Piece) → Good_piece c piece → piece_places piece ≡ own_places piece ++ all_places (inside c.w piece)
piece_sum c (Expression e clock s) h = expr_is e ∙ form_sum c.w (out-Form e.form) e clock s e.place
piece_sum c (Statement e s) h = equation_is e ∙ equation_sum c.w (out-Equation e) s h.written.0 h.written.1 h.written.2
piece_sum c (Core_statement e s) h = sym (append-nil (expr_places e.right))
piece_sum c (Body s) h = text_sum c.w (text_of s) s

-- ---- lists in which no element stands twice

pub in_left : {A : Type 0} {x : A} (xs ys : List A) → IsAmong x xs → IsAmong x (xs ++ ys)
in_left xs ys at_head = at_head
in_left xs ys (in_tail {rest = rest} i) = in_tail (in_left rest ys i)

pub in_right : {A : Type 0} {x : A} (xs ys : List A) → IsAmong x ys → IsAmong x (xs ++ ys)
in_right [] ys i = i
in_right (y ∷ xs) ys i = in_tail (in_right xs ys i)

pub apart : {A : Type 0} (x : A) (xs ys : List A) → AllDiffer (xs ++ ys) → IsAmong x xs → IsAmong x ys → ⊥
apart x xs ys d at_head k = d.0 (in_right _ ys k)
apart x xs ys d (in_tail {rest = rest} i) k = apart x rest ys d.1 i k

pub differ_right : {A : Type 0} (xs ys : List A) → AllDiffer (xs ++ ys) → AllDiffer ys
differ_right [] ys d = d
differ_right (x ∷ xs) ys d = differ_right xs ys d.1

pub differ_left : {A : Type 0} (xs ys : List A) → AllDiffer (xs ++ ys) → AllDiffer xs
differ_left [] ys d = tt
differ_left (x ∷ xs) ys d = (λ i. d.0 (in_left xs ys i), differ_left xs ys d.1)

in_all : (x : ℕ) (p : Piece) (ps : List Piece) → IsAmong p ps → IsAmong x (piece_places p) → IsAmong x (all_places ps)
in_all x p ps (at_head {rest = rest}) i = in_left (piece_places p) (all_places rest) i
in_all x p ps (in_tail {other = q} {rest = rest} k) i = in_right (piece_places q) (all_places rest) (in_all x p rest k i)

-- two parts of a piece that have one place are one part
record One_part (p q : Piece) : Type 0 where
  same : p ≡ q
  differ : AllDiffer (piece_places p)

one_part : (x : ℕ) (p q : Piece) (ps : List Piece) → AllDiffer (all_places ps) → IsAmong p ps → IsAmong q ps → IsAmong x (piece_places p) → IsAmong x (piece_places q) → One_part p q
one_part x p q ps d (at_head {rest = rest}) at_head i j = record { same = refl; differ = differ_left (piece_places p) (all_places rest) d }
one_part x p q ps d (at_head {rest = rest}) (in_tail b) i j = absurd (apart x (piece_places p) (all_places rest) d i (in_all x q rest b j))
one_part x p q ps d (in_tail {rest = rest} a) at_head i j = absurd (apart x (piece_places q) (all_places rest) d j (in_all x p rest a i))
one_part x p q ps d (in_tail {other = r} {rest = rest} a) (in_tail b) i j = one_part x p q rest (differ_right (piece_places r) (all_places rest) d) a b i j

-- ---- a place tells a call

record Has_call (w : Setting) (piece : Piece) (x : ℕ) : Type 0 where
  e : Expr
  clock : Clock
  scope : Scope
  call : List Expr × Text
  is : piece ≡ Expression e clock scope
  calls : call_of w (out-Form e.form) ≡ Some call
  at : e.place.0 ≡ x

own_has : (w : Setting) (f : Form-F Form Expr MergeBranch) (p : Place) (call : List Expr × Text) → call_of w f ≡ Some call → IsAmong p.0 (own_place f p)
own_has w (Form-F.Call f args) p call is = at_head
own_has w (Form-F.AsyncCall q f args) p call is = at_head
own_has w _ p call is = cc

has_own : (w : Setting) (piece : Piece) (x : ℕ) → Has_call w piece x → IsAmong x (own_places piece)
has_own w piece x h =
    subst (λ (p : Piece). IsAmong x (own_places p)) (sym h.is)
    (subst (λ (y : ℕ). IsAmong y (own_place (out-Form h.e.form) h.e.place)) h.at (own_has w (out-Form h.e.form) h.e.place h.call h.calls))

pub inside_good : (c : World) (piece : Piece) → Good_piece c piece → Good_all c (inside c.w piece)
inside_good c (Expression e clock s) h = good_inside_form c e clock s h
inside_good c (Statement e s) h = good_inside_equation c e s h
inside_good c (Core_statement e s) h = (good_inside_core c e s h, tt)
inside_good c (Body s) h = good_inside_body c s h

has_place : (c : World) (x : ℕ) (p q : Piece) → Good_piece c p → StandsIn c.w p q → Has_call c.w q x → IsAmong x (piece_places p)
has_place c x p q g itself h =
    subst (λ (l : List ℕ). IsAmong x l) (sym (piece_sum c p g)) (in_left (own_places p) (all_places (inside c.w p)) (has_own c.w p x h))
has_place c x p q g (deeper {part = m} i s) h =
    subst (λ (l : List ℕ). IsAmong x l) (sym (piece_sum c p g))
    (in_right (own_places p) (all_places (inside c.w p)) (in_all x m (inside c.w p) i (has_place c x m q (good_at c m (inside c.w p) (inside_good c p g) i) s h)))

one_piece : (c : World) (x : ℕ) (p q r : Piece) → Good_piece c p → AllDiffer (piece_places p) → StandsIn c.w p q → StandsIn c.w p r → Has_call c.w q x → Has_call c.w r x → q ≡ r
one_piece c x p q r g d itself itself h k = refl
one_piece c x p q r g d itself (deeper {part = m} i s) h k =
    absurd (apart x (own_places p) (all_places (inside c.w p)) (subst (λ (l : List ℕ). AllDiffer l) (piece_sum c p g) d) (has_own c.w p x h)
    (in_all x m (inside c.w p) i (has_place c x m r (good_at c m (inside c.w p) (inside_good c p g) i) s k)))
one_piece c x p q r g d (deeper {part = m} i s) itself h k =
    absurd (apart x (own_places p) (all_places (inside c.w p)) (subst (λ (l : List ℕ). AllDiffer l) (piece_sum c p g) d) (has_own c.w p x k)
    (in_all x m (inside c.w p) i (has_place c x m q (good_at c m (inside c.w p) (inside_good c p g) i) s h)))
one_piece c x p q r g d (deeper {part = m} i s) (deeper {part = n} j u) h k =
    let gm : Good_piece c m = good_at c m (inside c.w p) (inside_good c p g) i in
    let gn : Good_piece c n = good_at c n (inside c.w p) (inside_good c p g) j in
    let one : One_part m n = one_part x m n (inside c.w p) (differ_right (own_places p) (all_places (inside c.w p)) (subst (λ (l : List ℕ). AllDiffer l) (piece_sum c p g) d)) i j
    (has_place c x m q gm s h) (has_place c x n r gn u k) in
    one_piece c x m q r gm one.differ s (subst (λ (z : Piece). StandsIn c.w z r) (sym one.same) u) h k

-- the text of a frame is one of those whose places differ
same_text : (w : Setting) (o : Option Text) (args given : List Expr) (text : Text) → option_map {U = List Expr × Text} (λ x. (given, x)) o ≡ Some (args, text) → o ≡ Some text
same_text w None args given text e = elim (no_some e) [ ]
  where
    no_some : {A : Type 0} {x : A} → None ≡ Some x → ⊥
    no_some h = cc
same_text w (Some x) args given text e = ap (λ (o : Option (List Expr × Text)). second_of o) e
  where
    second_of : Option (List Expr × Text) → Option Text
    second_of None = None
    second_of (Some p) = Some p.1

called_text : (w : Setting) (f : Form-F Form Expr MergeBranch) (args : List Expr) (text : Text) → call_of w f ≡ Some (args, text) →
    ((g : List ℕ) (other : Text) → w.node g ≡ Some other → AllDiffer (text_places other)) → AllDiffer (text_places text)
called_text w (Form-F.Call f given) args text is d = d f text (same_text w (w.node f) args given text is)
called_text w (Form-F.AsyncCall q f given) args text is d = d f text (same_text w (w.node f) args given text is)
called_text w _ args text is d = cc

top_places : (text : Text) → body_places text (Top text) ≡ text_places text
top_places (Written n node) = refl
top_places (Lowered node) = refl

called_places : (s : Scope) (clock : Clock) (place : ℕ) (args : List Expr) (text : Text) → body_places text (Called s clock place args text) ≡ text_places text
called_places s clock place args (Written n node) = refl
called_places s clock place args (Lowered node) = refl

pub frame_differs : (w : Setting) (text : Text) → PlacesDiffer w text → (frame : Scope) → IsFrame w text frame → AllDiffer (piece_places (Body frame))
frame_differs w text d frame whole_text = subst (λ (l : List ℕ). AllDiffer l) (sym (top_places text)) d.own
frame_differs w text d frame (of_call {s = s} {clock = clock} {place = place} {args = args} {called = called} e f i o call at) =
    subst (λ (l : List ℕ). AllDiffer l) (sym (called_places s clock place args called)) (called_text w (out-Form e.form) args called call d.called)

frame_body : (w : Setting) (text : Text) (frame : Scope) → IsFrame w text frame → IsBodyOfNode frame
frame_body w text frame whole_text = tt
frame_body w text frame (of_call e f i o call at) = tt

pub frame_good : (c : World) (frame : Scope) → IsFrame c.w c.text frame → Good_piece c (Body frame)
frame_good c frame f = record { frame = frame; is_frame = f; scope = at_body refl (frame_body c.w c.text frame f); stands = itself; written = tt }

abbrev world_of : (w : Setting) (text : Text) → LeftsAgree w text → World
world_of w text lefts = record { w = w; rows = []; text = text; lefts = lefts }

pub places_tell_calls : PlacesTellCalls
places_tell_calls w text lefts differ frame f e d clock other s u call called h k h' k' same =
    let is : Expression e clock s ≡ Expression d other u =
    one_piece (world_of w text lefts) d.place.0 (Body frame) (Expression e clock s) (Expression d other u) (frame_good (world_of w text lefts) frame f)
    (frame_differs w text differ frame f) h h'
    (record { e = e; clock = clock; scope = s; call = call; is = refl; calls = k; at = same })
    (record { e = d; clock = other; scope = u; call = called; is = refl; calls = k'; at = refl }) in
    (let a : e ≡ d = cc in a, let b : clock ≡ other = cc in b, let b : s ≡ u = cc in b)
