-- What is reached stands in the text: each rule asks only of what stands in the bodies of a node and of called nodes.
use Rattle.std.proofs.Common.{◌≡◌, ◌-◌, ℕ, zero, suc, ◌+◌, Bool, true, false, List, [], ◌∷◌, ◌++◌, Option, Some, None, map, length, take, refl, sym, ap, subst, ◌∙◌, arith}
use Rattle.std.specs.Prelude.{if◌then◌else◌, ◌==◌, slice_get}
use Rattle.std.specs.List.{find, flat_map}
use Rattle.std.specs.Option.{option_map}
use Rattle.hept_ast.specs.Texts.{Name, same, is_in, place_in, tag_value}
use Rattle.hept_ast.specs.Scopes.{Clock, Text, Written, Lowered, Scope, Top, Called, In_branch, In_body, In_state, Under, inputs_of, text_of, block_of, state_block, block_or_none, declares, declared_in, home}
use Rattle.hept_ast.specs.Meaning.{Question, Gives, Output, Variable, Last, Defined, Defines, Present, Active, Restarted, Active_state, Left_state, Answer, Unknown, Absent, Nil, Value, Is, State_at, Rule, Says, Reads, Asks, Setting, is_true, is_value, answer_to, go_on, go_on_state, on_state, if_present, previous, count_before, if_defined, clock_seen, steps_hold, before, merged, form_rule, reply_or, call_of, output_rule, outputs_rule, right_rule, defined_or_last, branch_rule, equation_rule, defines_rule, block_rule, core_rule, defined_rule, argument_rule, own_rule, variable_rule, constant_of, initial_rule, last_rule, taken, strong_of, weak_of, from_pending, active_state_rule, left_state_rule, active_rule, some_true, restarted_too, restarted_rule, rule}
use Rattle.hept_ast.specs.Outputs.{Knows, Follows, said}
use Rattle.hept_ast.specs.Sites.{Piece, Expression, Statement, Core_statement, Body, expressions, conditions, state_pieces, equation_pieces, body_pieces, pieces}
use Rattle.hept_ast.specs.OwnReplies.{AskedBy, at_once, after_answer}
use Rattle.hept_ast.specs.Paths.{IsAmong, at_head, in_tail, form_inside, inside, StandsIn, itself, deeper, IsBodyOfNode, ScopeIn, at_body, at_branch, at_reset, at_state, at_right, IsFrame, of_call, LeftsAgree}
use Rattle.hept_ast.specs.declared.name.Place.{Place}
use Rattle.hept_ast.specs.declared.tree.Expr.{Expr}
use Rattle.hept_ast.specs.declared.tree.MergeBranch.{MergeBranch}
use Rattle.hept_ast.specs.declared.tree.Form.{Form, out-Form}
use Rattle.hept_ast.specs.declared.tree.Form.TheOpen.{Form-F}
use Rattle.hept_ast.specs.declared.tree.Decl.{Decl}
use Rattle.hept_ast.specs.declared.tree.Init.{Init}
use Rattle.hept_ast.specs.declared.tree.Escape.{Escape}
use Rattle.hept_ast.specs.declared.tree.Block.{Block}
use Rattle.hept_ast.specs.declared.tree.Branch.{Branch}
use Rattle.hept_ast.specs.declared.tree.State.{State}
use Rattle.hept_ast.specs.declared.tree.Equation.{Equation, out-Equation}
use Rattle.hept_ast.specs.declared.tree.Equation.TheOpen.{Equation-F}
use Rattle.hept_ast.specs.declared.tree.CoreEquation.{CoreEquation}
use Rattle.hept_ast.specs.declared.tree.Node.{Node}
use Rattle.hept_ast.proofs.Depths.{by_rule}
use Rattle.hept_ast.proofs.CallAlone.{shift}

-- a text in a meaning
pub record World : Type 0 where
  pub w : Setting
  pub rows : List (List ℕ)
  pub text : Text
  pub lefts : LeftsAgree w text

-- a statement stands in the text of a program's node
abbrev pub Is_written : Piece → Type 0
Is_written (Statement e s) = (n : ℕ) × (node : Node) × (text_of s ≡ Written n node)
Is_written _ = Unit {0}

-- a piece stands in a frame, and its scope too
pub record Stands (c : World) (piece : Piece) (s : Scope) : Type 0 where
  pub frame : Scope
  pub is_frame : IsFrame c.w c.text frame
  pub scope : ScopeIn c.w frame s
  pub stands : StandsIn c.w (Body frame) piece
  pub written : Is_written piece

pub record Stood (c : World) (s : Scope) : Type 0 where
  pub frame : Scope
  pub is_frame : IsFrame c.w c.text frame
  pub scope : ScopeIn c.w frame s

abbrev pub scope_of : Piece → Scope
scope_of (Expression e clock s) = s
scope_of (Statement e s) = s
scope_of (Core_statement e s) = s
scope_of (Body s) = s

abbrev pub Good_piece : World → Piece → Type 0
Good_piece c piece = Stands c piece (scope_of piece)

abbrev pub Good_all : World → List Piece → Type 0
Good_all c [] = Unit {0}
Good_all c (piece ∷ pieces) = Good_piece c piece × Good_all c pieces

pub good_at : (c : World) (piece : Piece) (ps : List Piece) → Good_all c ps → IsAmong piece ps → Good_piece c piece
good_at c piece ps h at_head = h.0
good_at c piece ps h (in_tail {rest = rest} i) = good_at c piece rest h.1 i

among_left : {p : Piece} (ps qs : List Piece) → IsAmong p ps → IsAmong p (ps ++ qs)
among_left ps qs at_head = at_head
among_left ps qs (in_tail {rest = rest} i) = in_tail (among_left rest qs i)

among_right : {p : Piece} (ps qs : List Piece) → IsAmong p qs → IsAmong p (ps ++ qs)
among_right [] qs i = i
among_right (q ∷ ps) qs i = in_tail (among_right ps qs i)

pub stands_more : (w : Setting) (p q r : Piece) → StandsIn w p q → IsAmong r (inside w q) → StandsIn w p r
stands_more w p q r itself i = deeper i itself
stands_more w p q r (deeper {part = m} j h) i = deeper j (stands_more w m q r h i)

-- ---- the parts of a good piece are good

-- what is among a list stands in the frame
abbrev Held : (c : World) → Scope → List Piece → Type 0
Held c frame ps = (p : Piece) → IsAmong p ps → StandsIn c.w (Body frame) p

good_expressions : (c : World) (frame : Scope) → IsFrame c.w c.text frame → (es : List Expr) (clock : Clock) (s : Scope) → ScopeIn c.w frame s →
    Held c frame (expressions es clock s) → Good_all c (expressions es clock s)
good_expressions c frame f [] clock s i h = tt
good_expressions c frame f (e ∷ es) clock s i h =
    (record { frame = frame; is_frame = f; scope = i; stands = h _ at_head; written = tt }, good_expressions c frame f es clock s i (λ p a. h p (in_tail a)))

good_branches : (c : World) (frame : Scope) → IsFrame c.w c.text frame → (bs : List MergeBranch) (clock : MergeBranch → Clock) (s : Scope) → ScopeIn c.w frame s →
    Held c frame (map (λ b. Expression b.value (clock b) s) bs) → Good_all c (map (λ b. Expression b.value (clock b) s) bs)
good_branches c frame f [] clock s i h = tt
good_branches c frame f (b ∷ bs) clock s i h =
    (record { frame = frame; is_frame = f; scope = i; stands = h _ at_head; written = tt }, good_branches c frame f bs clock s i (λ p a. h p (in_tail a)))

good_form : (c : World) (f : Form-F Form Expr MergeBranch) (e : Expr) (clock : Clock) (s : Scope) (frame : Scope) → IsFrame c.w c.text frame → ScopeIn c.w frame s →
    Held c frame (form_inside c.w f e clock s) → Good_all c (form_inside c.w f e clock s)
good_form c (Form-F.Const k) e clock s frame g i h = tt
good_form c (Form-F.Var x) e clock s frame g i h = tt
good_form c (Form-F.Last x) e clock s frame g i h = tt
good_form c (Form-F.Unary op a) e clock s frame g i h = good_expressions c frame g (a ∷ []) clock s i h
good_form c (Form-F.Binary op a b) e clock s frame g i h = good_expressions c frame g (a ∷ b ∷ []) clock s i h
good_form c (Form-F.If k a b) e clock s frame g i h = good_expressions c frame g (k ∷ a ∷ b ∷ []) clock s i h
good_form c (Form-F.Fby a b) e clock s frame g i h = good_expressions c frame g (a ∷ b ∷ []) clock s i h
good_form c (Form-F.Pre a) e clock s frame g i h = good_expressions c frame g (a ∷ []) clock s i h
good_form c (Form-F.Arrow a b) e clock s frame g i h = good_expressions c frame g (a ∷ b ∷ []) clock s i h
good_form c (Form-F.When a tag x) e clock s frame g i h = good_expressions c frame g (a ∷ []) (take (length clock - 1) clock) s i h
good_form c (Form-F.Merge x branches) e clock s frame g i h = good_branches c frame g branches (λ b. clock ++ record { tag = b.tag; name = x } ∷ []) s i h
good_form c (Form-F.Call f args) e clock s frame g i h = good_expressions c frame g args clock s i h
good_form c (Form-F.AsyncCall q f args) e clock s frame g i h = good_expressions c frame g args clock s i h
good_form c (Form-F.AsyncConst k) e clock s frame g i h = tt
good_form c (Form-F.Get a) e clock s frame g i h = good_expressions c frame g (a ∷ []) clock s i h

pub good_inside_form : (c : World) (e : Expr) (clock : Clock) (s : Scope) → Good_piece c (Expression e clock s) → Good_all c (form_inside c.w (out-Form e.form) e clock s)
good_inside_form c e clock s h = good_form c (out-Form e.form) e clock s h.frame h.is_frame h.scope (λ p a. stands_more c.w (Body h.frame) (Expression e clock s) p h.stands a)

good_bodies : (c : World) (frame : Scope) → IsFrame c.w c.text frame → (bs : List Branch) (on : Expr) (s : Scope) → ScopeIn c.w frame s → StandsIn c.w (Body frame) (Expression on [] s) →
    Held c frame (map (λ b. Body (In_branch s on b)) bs) → Good_all c (map (λ b. Body (In_branch s on b)) bs)
good_bodies c frame f [] on s i o h = tt
good_bodies c frame f (b ∷ bs) on s i o h =
    (record { frame = frame; is_frame = f; scope = at_branch i o (h _ at_head); stands = h _ at_head; written = tt }, good_bodies c frame f bs on s i o (λ p a. h p (in_tail a)))

good_conditions : (c : World) (frame : Scope) → IsFrame c.w c.text frame → (es : List Escape) (s : Scope) → ScopeIn c.w frame s → Held c frame (conditions es s) → Good_all c (conditions es s)
good_conditions c frame f [] s i h = tt
good_conditions c frame f (e ∷ es) s i h =
    (record { frame = frame; is_frame = f; scope = i; stands = h _ at_head; written = tt }, good_conditions c frame f es s i (λ p a. h p (in_tail a)))

pub good_append : (c : World) (ps qs : List Piece) → Good_all c ps → Good_all c qs → Good_all c (ps ++ qs)
good_append c [] qs h k = k
good_append c (p ∷ ps) qs h k = (h.0, good_append c ps qs h.1 k)

good_states : (c : World) (frame : Scope) → IsFrame c.w c.text frame → (e : Equation) (p : Place) (qs states : List State) (k : ℕ) (s : Scope) → ScopeIn c.w frame s →
    StandsIn c.w (Body frame) (Statement e s) → Is_written (Statement e s) → out-Equation e ≡ Equation-F.Automaton p states →
    Held c frame (state_pieces qs states k s) → Good_all c (state_pieces qs states k s)
good_states c frame f e p [] states k s i o n is h = tt
good_states c frame f e p (q ∷ qs) states k s i o n is h =
    let inner : ScopeIn c.w frame (In_state s states k) = at_state n.0 n.1 e p n.2 i o is in (
      record { frame = frame; is_frame = f; scope = inner; stands = h _ at_head; written = tt },
      good_append c (conditions q.weak (In_state s states k) ++ conditions q.strong s) (state_pieces qs states (suc k) s)
          (good_append c (conditions q.weak (In_state s states k)) (conditions q.strong s)
          (good_conditions c frame f q.weak (In_state s states k) inner (λ r a. h r (in_tail (among_left _ _ (among_left _ _ a)))))
          (good_conditions c frame f q.strong s i (λ r a. h r (in_tail (among_left _ _ (among_right (conditions q.weak (In_state s states k)) _ a))))))
          (good_states c frame f e p qs states (suc k) s i o n is (λ r a. h r (in_tail (among_right (conditions q.weak (In_state s states k) ++ conditions q.strong s) _ a)))),
    )

good_equation : (c : World) (e : Equation) (f : Equation-F Equation Block Branch State) (s : Scope) (frame : Scope) → out-Equation e ≡ f → IsFrame c.w c.text frame → ScopeIn c.w frame s →
    StandsIn c.w (Body frame) (Statement e s) → Is_written (Statement e s) → Held c frame (equation_pieces c.w f s) → Good_all c (equation_pieces c.w f s)
good_equation c e (Equation-F.Define p left right) s frame is g i o n h = (record { frame = frame; is_frame = g; scope = i; stands = h _ at_head; written = tt }, tt)
good_equation c e (Equation-F.Switch p on branches) s frame is g i o n h =
    (record { frame = frame; is_frame = g; scope = i; stands = h _ at_head; written = tt }, good_bodies c frame g branches on s i (h _ at_head) (λ p a. h p (in_tail a)))
good_equation c e (Equation-F.Reset p block every) s frame is g i o n h = (
  record { frame = frame; is_frame = g; scope = at_reset i (h _ (in_tail at_head)) (h _ at_head); stands = h _ at_head; written = tt },
  (record { frame = frame; is_frame = g; scope = i; stands = h _ (in_tail at_head); written = tt }, tt),
)
good_equation c e (Equation-F.Automaton p states) s frame is g i o n h = good_states c frame g e p states states 0 s i o n is h

pub good_inside_equation : (c : World) (e : Equation) (s : Scope) → Good_piece c (Statement e s) → Good_all c (equation_pieces c.w (out-Equation e) s)
good_inside_equation c e s h =
    good_equation c e (out-Equation e) s h.frame refl h.is_frame h.scope h.stands h.written (λ p a. stands_more c.w (Body h.frame) (Statement e s) p h.stands a)

good_statements : (c : World) (frame : Scope) → IsFrame c.w c.text frame → (es : List Equation) (s : Scope) → ScopeIn c.w frame s → (n : ℕ) (node : Node) → text_of s ≡ Written n node →
    Held c frame (map (λ e. Statement e s) es) → Good_all c (map (λ e. Statement e s) es)
good_statements c frame f [] s i n node is h = tt
good_statements c frame f (e ∷ es) s i n node is h =
    (record { frame = frame; is_frame = f; scope = i; stands = h _ at_head; written = (n, node, is) }, good_statements c frame f es s i n node is (λ p a. h p (in_tail a)))

good_cores : (c : World) (frame : Scope) → IsFrame c.w c.text frame → (es : List CoreEquation) (s : Scope) → ScopeIn c.w frame s →
    Held c frame (map (λ e. Core_statement e s) es) → Good_all c (map (λ e. Core_statement e s) es)
good_cores c frame f [] s i h = tt
good_cores c frame f (e ∷ es) s i h =
    (record { frame = frame; is_frame = f; scope = i; stands = h _ at_head; written = tt }, good_cores c frame f es s i (λ p a. h p (in_tail a)))

good_text : (c : World) (text : Text) (s : Scope) (frame : Scope) → text_of s ≡ text → IsFrame c.w c.text frame → ScopeIn c.w frame s →
    Held c frame (body_pieces c.w text s) → Good_all c (body_pieces c.w text s)
good_text c (Written n node) s frame is f i h = good_statements c frame f (block_of s).body s i n node is h
good_text c (Lowered node) s frame is f i h = good_cores c frame f node.equations s i h

pub good_inside_body : (c : World) (s : Scope) → Good_piece c (Body s) → Good_all c (body_pieces c.w (text_of s) s)
good_inside_body c s h = good_text c (text_of s) s h.frame refl h.is_frame h.scope (λ p a. stands_more c.w (Body h.frame) (Body s) p h.stands a)

pub good_inside_core : (c : World) (e : CoreEquation) (s : Scope) → Good_piece c (Core_statement e s) → Good_piece c (Expression e.right e.clock.steps (Under s e.resets))
good_inside_core c e s h = record {
  frame = h.frame;
  is_frame = h.is_frame;
  scope = at_right h.scope;
  stands = stands_more c.w (Body h.frame) (Core_statement e s) (Expression e.right e.clock.steps (Under s e.resets)) h.stands at_head;
  written = tt;
}

-- ---- good questions

-- a scope whose block's equations stand
pub record Good_home (c : World) (s : Scope) : Type 0 where
  pub stood : Stood c s
  pub body : Good_all c (body_pieces c.w (text_of s) s)

pub record Good_automaton (c : World) (s : Scope) (states : List State) : Type 0 where
  pub equation : Equation
  pub place : Place
  pub stands : Good_piece c (Statement equation s)
  pub is : out-Equation equation ≡ Equation-F.Automaton place states

abbrev pub Good : World → Question → Type 0
Good c (Gives e clock s t) = Good_piece c (Expression e clock s)
Good c (Output e j clock s t) = Good_piece c (Expression e clock s)
Good c (Variable x s t) = Stood c s
Good c (Last x s t) = Stood c s
Good c (Defined x s t) = Good_home c s
Good c (Defines x e) = Unit {0}
Good c (Present clock s t) = Stood c s
Good c (Active s t) = Stood c s
Good c (Restarted s t) = Stood c s
Good c (Active_state s states t) = Good_automaton c s states
Good c (Left_state s states t) = Good_automaton c s states

pub data Only (c : World) : Rule → Type 0 where
  says : {a : Answer} → Only c (Says a)
  reads : {t j : ℕ} → Only c (Reads t j)
  asks : {q : Question} {go : Answer → Rule} → Good c q → ((a : Answer) → Knows c.w c.rows q a → Only c (go a)) → Only c (Asks q go)

pub only_asked : (c : World) (q : Question) (d : Rule) → Only c d → AskedBy c.w c.rows d q → Good c q
only_asked c q d says m = elim m [ ]
only_asked c q d reads m = elim m [ ]
only_asked c q d (asks h k) at_once = h
only_asked c q d (asks {go = go} h k) (after_answer {a = a} known m) = only_asked c q (go a) (k a known) m

abbrev stood_of : {c : World} {p : Piece} {s : Scope} → Stands c p s → Stood c s
stood_of h = record { frame = h.frame; is_frame = h.is_frame; scope = h.scope }

-- ---- words

if_only : {c : World} (b : Bool) {d e : Rule} → Only c d → Only c e → Only c (if b then d else e)
if_only true h k = h
if_only false h k = k

if_known : {c : World} (b : Bool) {d e : Rule} → (b ≡ true → Only c d) → Only c e → Only c (if b then d else e)
if_known true h k = h refl
if_known false h k = k

go_on_only : {c : World} (a : Answer) {go : ℕ → Rule} → ((v : ℕ) → Only c (go v)) → Only c (go_on a go)
go_on_only (Value v) h = h v
go_on_only Absent h = says
go_on_only Nil h = says
go_on_only Unknown h = says
go_on_only (Is b) h = says
go_on_only (State_at k m) h = says

go_on_state_only : {c : World} (a : Answer) {go : ℕ → Bool → Rule} → ((k : ℕ) (m : Bool) → Only c (go k m)) → Only c (go_on_state a go)
go_on_state_only (State_at k m) h = h k m
go_on_state_only Absent h = says
go_on_state_only Nil h = says
go_on_state_only Unknown h = says
go_on_state_only (Value v) h = says
go_on_state_only (Is b) h = says

answer : {c : World} {q : Question} → Good c q → Only c (answer_to q)
answer h = asks h (λ a k. says)

present_only : {c : World} {q : Question} {d : Rule} → Good c q → Only c d → Only c (if_present q d)
present_only h k = asks h (λ a known. if_only (is_true a) k says)

previous_only : {c : World} (present restarted : ℕ → Question) (go : ℕ → Rule) (none : Rule) (t : ℕ) → ((p : ℕ) → Good c (present p)) → ((p : ℕ) → Good c (restarted p)) →
    ((p : ℕ) → Only c (go p)) → Only c none → Only c (previous present restarted go none t)
previous_only present restarted go none zero f g h k = k
previous_only present restarted go none (suc p) f g h k =
    asks (g (suc p)) (λ a n. if_only (is_true a) k (asks (f p) (λ b m. if_only (is_true b) (h p) (previous_only present restarted go none p f g h k))))

count_only : {c : World} (present : ℕ → Question) (t : ℕ) (go : ℕ → Rule) → ((p : ℕ) → Good c (present p)) → ((n : ℕ) → Only c (go n)) → Only c (count_before present go t)
count_only present zero go f h = h 0
count_only present (suc p) go f h = asks (f p) (λ a k. count_only present p _ f (λ n. h (if is_true a then n + 1 else n)))

defined_only : {c : World} (x : Name) (es : List Equation) {go : Bool → Rule} → ((b : Bool) → Only c (go b)) → Only c (if_defined x es go)
defined_only x [] h = h false
defined_only x (e ∷ es) h = asks tt (λ a k. if_only (is_true a) (h true) (defined_only x es h))

-- ---- scopes

body_home : (c : World) (s : Scope) → Good_piece c (Body s) → Good_home c s
body_home c s h = record { stood = stood_of h; body = good_inside_body c s h }

split_left : (c : World) (ps qs : List Piece) → Good_all c (ps ++ qs) → Good_all c ps
split_left c [] qs h = tt
split_left c (p ∷ ps) qs h = (h.0, split_left c ps qs h.1)

split_right : (c : World) (ps qs : List Piece) → Good_all c (ps ++ qs) → Good_all c qs
split_right c [] qs h = h
split_right c (p ∷ ps) qs h = split_right c ps qs h.1

record State_parts (c : World) (s : Scope) (states : List State) (k : ℕ) (q : State) : Type 0 where
  body : Good_piece c (Body (In_state s states k))
  weak : Good_all c (conditions q.weak (In_state s states k))
  strong : Good_all c (conditions q.strong s)

state_parts : (c : World) (s : Scope) (states qs : List State) (k j : ℕ) (q : State) → Good_all c (state_pieces qs states k s) → slice_get qs j ≡ Some q → State_parts c s states (shift j k) q
state_parts c s states [] k j q h is = let f : None ≡ Some q = is in cc
state_parts c s states (p ∷ qs) k zero q h is =
    let e : p ≡ q = cc in
    let conds : Good_all c (conditions p.weak (In_state s states k) ++ conditions p.strong s) = split_left c (conditions p.weak (In_state s states k) ++ conditions p.strong s) (state_pieces qs states (suc k) s) h.1 in
    subst (λ (x : State). State_parts c s states k x) e (record {
      body = h.0;
      weak = split_left c (conditions p.weak (In_state s states k)) (conditions p.strong s) conds;
      strong = split_right c (conditions p.weak (In_state s states k)) (conditions p.strong s) conds;
    })
state_parts c s states (p ∷ qs) k (suc j) q h is =
    state_parts c s states qs (suc k) j q (split_right c (conditions p.weak (In_state s states k) ++ conditions p.strong s) (state_pieces qs states (suc k) s) h.1) is

shift_zero : (k n : ℕ) → shift k n ≡ k + n
shift_zero zero n = omega arith
shift_zero (suc k) n = shift_zero k (suc n) ∙ omega arith

automaton_pieces : (c : World) (s : Scope) (states : List State) (h : Good_automaton c s states) → Good_all c (state_pieces states states 0 s)
automaton_pieces c s states h = subst (λ (f : Equation-F Equation Block Branch State). Good_all c (equation_pieces c.w f s)) h.is (good_inside_equation c h.equation s h.stands)

state_at : (c : World) (s : Scope) (states : List State) (k : ℕ) (q : State) → Good_automaton c s states → slice_get states k ≡ Some q → State_parts c s states k q
state_at c s states k q h is =
    subst (λ (n : ℕ). State_parts c s states n q) (let e : shift k 0 ≡ k = shift_zero k 0 ∙ omega arith in e) (state_parts c s states states 0 k q (automaton_pieces c s states h) is)

state_stood : (c : World) (s : Scope) (states : List State) (k : ℕ) → Good_automaton c s states → Stood c (In_state s states k)
state_stood c s states k h = record {
  frame = h.stands.frame;
  is_frame = h.stands.is_frame;
  scope = at_state h.stands.written.0 h.stands.written.1 h.equation h.place h.stands.written.2 h.stands.scope h.stands.stands h.is;
}

-- a state beyond the last one has no equations
no_state : (c : World) (s : Scope) (states : List State) (k n : ℕ) (node : Node) → slice_get states k ≡ None → text_of s ≡ Written n node →
    Good_all c (body_pieces c.w (text_of s) (In_state s states k))
no_state c s states k n node is e =
    subst (λ (text : Text). Good_all c (body_pieces c.w text (In_state s states k))) (sym e)
    (subst (λ (o : Option State). Good_all c (map (λ d. Statement d (In_state s states k)) (block_or_none o).body)) (sym is) tt)

state_home : (c : World) (s : Scope) (states : List State) (k : ℕ) (o : Option State) → slice_get states k ≡ o → Good_automaton c s states → Good_home c (In_state s states k)
state_home c s states k None is h = record { stood = state_stood c s states k h; body = no_state c s states k h.stands.written.0 h.stands.written.1 is h.stands.written.2 }
state_home c s states k (Some q) is h = body_home c (In_state s states k) (state_at c s states k q h is).body

-- the scope that declares a variable
if_home : {c : World} (b : Bool) (s u : Scope) → Good_home c s → Good_home c u → Good_home c (if b then s else u)
if_home true s u h k = h
if_home false s u h k = k

at_frame : (c : World) (s frame : Scope) → IsFrame c.w c.text frame → s ≡ frame → IsBodyOfNode s → Good_home c s
at_frame c s frame f e root = body_home c s (record {
  frame = s;
  is_frame = subst (λ (u : Scope). IsFrame c.w c.text u) (sym e) f;
  scope = at_body refl root;
  stands = itself;
  written = tt;
})

home_good : (c : World) (x : Name) (s frame : Scope) → IsFrame c.w c.text frame → ScopeIn c.w frame s → Good_home c (home x s)
home_good c x (Top text) frame f (at_body e root) = at_frame c (Top text) frame f e root
home_good c x (Called s clock p args text) frame f (at_body e root) = at_frame c (Called s clock p args text) frame f e root
home_good c x (In_branch s on b) frame f (at_body e root) = absurd root
home_good c x (In_branch s on b) frame f (at_branch i o body) =
    if_home (declares (In_branch s on b) x) (In_branch s on b) (home x s)
    (body_home c (In_branch s on b) (record { frame = frame; is_frame = f; scope = at_branch i o body; stands = body; written = tt })) (home_good c x s frame f i)
home_good c x (In_body s every block) frame f (at_body e root) = absurd root
home_good c x (In_body s every block) frame f (at_reset i o body) =
    if_home (declares (In_body s every block) x) (In_body s every block) (home x s)
    (body_home c (In_body s every block) (record { frame = frame; is_frame = f; scope = at_reset i o body; stands = body; written = tt })) (home_good c x s frame f i)
home_good c x (In_state s states k) frame f (at_body e root) = absurd root
home_good c x (In_state s states k) frame f (at_state n node e p w i o is) =
    if_home (declares (In_state s states k) x) (In_state s states k) (home x s)
    (state_home c s states k (slice_get states k) refl
    (record { equation = e; place = p; stands = record { frame = frame; is_frame = f; scope = i; stands = o; written = (n, node, w) }; is = is }))
    (home_good c x s frame f i)
home_good c x (Under s resets) frame f (at_body e root) = absurd root
home_good c x (Under s resets) frame f (at_right i) = home_good c x s frame f i

-- ---- calls and their arguments

-- the call whose body a scope is
pub record Caller (c : World) (s : Scope) (clock : Clock) (place : ℕ) (args : List Expr) (text : Text) : Type 0 where
  pub expression : Expr
  pub stands : Good_piece c (Expression expression clock s)
  pub call : call_of c.w (out-Form expression.form) ≡ Some (args, text)
  pub at : expression.place.0 ≡ place

caller : (c : World) (s : Scope) (clock : Clock) (place : ℕ) (args : List Expr) (text : Text) → IsFrame c.w c.text (Called s clock place args text) → Caller c s clock place args text
caller c s clock place args text (of_call {frame = frame} e f i o call at) =
    record { expression = e; stands = record { frame = frame; is_frame = f; scope = i; stands = o; written = tt }; call = call; at = at }

pub caller_of : (c : World) (s : Scope) (clock : Clock) (place : ℕ) (args : List Expr) (text : Text) → Stood c (Called s clock place args text) → Caller c s clock place args text
caller_of c s clock place args text h = caller c s clock place args text (is_called h.frame h.is_frame h.scope)
  where
    is_called : (frame : _) → IsFrame c.w c.text frame → ScopeIn c.w frame (Called s clock place args text) → IsFrame c.w c.text (Called s clock place args text)
    is_called frame f (at_body e root) = subst (λ (u : Scope). IsFrame c.w c.text u) (sym e) f

same_args : (w : Setting) (o : Option Text) (args given : List Expr) (text : Text) → option_map {U = List Expr × Text} (λ x. (given, x)) o ≡ Some (args, text) → given ≡ args
same_args w None args given text e = elim (no_some e) [ ]
  where
    no_some : {A : Type 0} {x : A} → None ≡ Some x → ⊥
    no_some f = cc
same_args w (Some x) args given text e = let f : Some (given, x) ≡ Some (args, text) = e in ap (λ (o : Option (List Expr × Text)). first_of o) f
  where
    first_of : Option (List Expr × Text) → List Expr
    first_of None = []
    first_of (Some p) = p.0

args_of : (c : World) (f : Form-F Form Expr MergeBranch) (e : Expr) (clock : Clock) (s : Scope) (args : List Expr) (text : Text) → call_of c.w f ≡ Some (args, text) →
    Good_all c (form_inside c.w f e clock s) → Good_all c (expressions args clock s)
args_of c (Form-F.Call g given) e clock s args text is h = subst (λ (es : List Expr). Good_all c (expressions es clock s)) (same_args c.w (c.w.node g) args given text is) h
args_of c (Form-F.AsyncCall q g given) e clock s args text is h = subst (λ (es : List Expr). Good_all c (expressions es clock s)) (same_args c.w (c.w.node g) args given text is) h
args_of c _ e clock s args text is h = cc

good_expression : (c : World) (es : List Expr) (clock : Clock) (s : Scope) (j : ℕ) (e : Expr) → Good_all c (expressions es clock s) → slice_get es j ≡ Some e → Good_piece c (Expression e clock s)
good_expression c [] clock s j e h is = let f : None ≡ Some e = is in cc
good_expression c (d ∷ es) clock s zero e h is = subst (λ (x : Expr). Good_piece c (Expression x clock s)) (let f : d ≡ e = cc in f) h.0
good_expression c (d ∷ es) clock s (suc j) e h is = good_expression c es clock s j e h.1 is

pub argument_good : (c : World) (s : Scope) (clock : Clock) (place : ℕ) (args : List Expr) (text : Text) (j : ℕ) (e : Expr) → Caller c s clock place args text → slice_get args j ≡ Some e →
    Good_piece c (Expression e clock s)
argument_good c s clock place args text j e h is =
    good_expression c args clock s j e
    (args_of c (out-Form h.expression.form) h.expression clock s args text h.call (good_inside_form c h.expression clock s h.stands)) is

-- ---- expressions

branch_found : (c : World) (p : MergeBranch → Bool) (bs : List MergeBranch) (x : Name) (clock : Clock) (s : Scope) (t : ℕ) →
    Good_all c (map (λ b. Expression b.value (clock ++ record { tag = b.tag; name = x } ∷ []) s) bs) → Only c (merged c.w (find p bs) x clock s t)
branch_found c p [] x clock s t h = says
branch_found c p (b ∷ bs) x clock s t h = go (p b) refl (branch_found c p bs x clock s t h.1)
  where
    go : (d : Bool) → p b ≡ d → Only c (merged c.w (find p bs) x clock s t) → Only c (merged c.w (find p (b ∷ bs)) x clock s t)
    go true e r = rw e (answer h.0)
    go false e r = rw e r

before_only : (c : World) (clock : Clock) (s : Scope) (t : ℕ) (go : ℕ → Rule) (none : Rule) → Stood c s → ((p : ℕ) → Only c (go p)) → Only c none → Only c (before c.w clock s t go none)
before_only c clock s t go none h goes nones = previous_only (λ p. Present clock s p) (λ p. Restarted s p) go none t (λ p. h) (λ p. h) goes nones

form_only : (c : World) (f : Form-F Form Expr MergeBranch) (e : Expr) (clock : Clock) (s : Scope) (t : ℕ) → Good_piece c (Expression e clock s) → Good_all c (form_inside c.w f e clock s) →
    Only c (form_rule c.w f e clock s t)
form_only c (Form-F.Const k) e clock s t g h = says
form_only c (Form-F.Var x) e clock s t g h = answer (stood_of g)
form_only c (Form-F.Last x) e clock s t g h = answer (stood_of g)
form_only c (Form-F.Unary op a) e clock s t g h = asks h.0 (λ x k. go_on_only x (λ v. says))
form_only c (Form-F.Binary op a b) e clock s t g h = asks h.0 (λ x k. go_on_only x (λ u. asks h.1.0 (λ y l. go_on_only y (λ v. says))))
form_only c (Form-F.If i a b) e clock s t g h = asks h.0 (λ x k. go_on_only x (λ n. asks h.1.0 (λ y l. go_on_only y (λ u. asks h.1.1.0 (λ z m. go_on_only z (λ v. says))))))
form_only c (Form-F.Fby a b) e clock s t g h = before_only c clock s t (λ p. answer_to (Gives b clock s p)) (answer_to (Gives a clock s t)) (stood_of g) (λ p. answer h.1.0) (answer h.0)
form_only c (Form-F.Pre a) e clock s t g h = before_only c clock s t (λ p. answer_to (Gives a clock s p)) (Says Nil) (stood_of g) (λ p. answer h.0) says
form_only c (Form-F.Arrow a b) e clock s t g h = before_only c clock s t (λ p. answer_to (Gives b clock s t)) (answer_to (Gives a clock s t)) (stood_of g) (λ p. answer h.1.0) (answer h.0)
form_only c (Form-F.When a tag x) e clock s t g h = answer h.0
form_only c (Form-F.Merge x branches) e clock s t g h = asks (stood_of g) (λ a k. go_on_only a (λ v. branch_found c (λ b. tag_value c.w.types b.tag == v) branches x clock s t h))
form_only c (Form-F.Call f args) e clock s t g h = answer g
form_only c (Form-F.AsyncCall q f args) e clock s t g h = answer g
form_only c (Form-F.AsyncConst k) e clock s t g h = says
form_only c (Form-F.Get a) e clock s t g h = answer h.0

reply_only : (c : World) (o : Option (List ℕ)) (j : ℕ) {d : Rule} → Only c d → Only c (reply_or c.w o j d)
reply_only c None j h = h
reply_only c (Some out) j h = says

pub called_stood : (c : World) (e : Expr) (clock : Clock) (s : Scope) (args : List Expr) (text : Text) → Good_piece c (Expression e clock s) → call_of c.w (out-Form e.form) ≡ Some (args, text) →
    Stood c (Called s clock e.place.0 args text)
called_stood c e clock s args text g is =
    record { frame = Called s clock e.place.0 args text; is_frame = of_call e g.is_frame g.scope g.stands is refl; scope = at_body refl tt }

output_only : (c : World) (e : Expr) (d : Option (List Expr × Text)) (j : ℕ) (clock : Clock) (s : Scope) (t : ℕ) → Good_piece c (Expression e clock s) → call_of c.w (out-Form e.form) ≡ d →
    Only c (output_rule c.w d e.place.0 j clock s t)
output_only c e None j clock s t g is = says
output_only c e (Some (args, text)) j clock s t g is =
    count_only (λ p. Present clock s p) t _ (λ p. stood_of g) (λ n. reply_only c _ j (answer (called_stood c e clock s args text g is)))

outputs_only : (c : World) (f : Form-F Form Expr MergeBranch) (e : Expr) (j : ℕ) (clock : Clock) (s : Scope) (t : ℕ) → Good_piece c (Expression e clock s) → out-Form e.form ≡ f →
    Good_all c (form_inside c.w f e clock s) → Only c (outputs_rule c.w f e j clock s t)
outputs_only c (Form-F.Get a) e j clock s t g is h = answer h.0
outputs_only c (Form-F.Call f args) e j clock s t g is h = output_only c e _ j clock s t g (ap (λ (x : Form-F Form Expr MergeBranch). call_of c.w x) is)
outputs_only c (Form-F.AsyncCall q f args) e j clock s t g is h = output_only c e _ j clock s t g (ap (λ (x : Form-F Form Expr MergeBranch). call_of c.w x) is)
outputs_only c _ e j clock s t g is h = says

right_only : (c : World) (left : List Name) (right : Expr) (x : Name) (clock : Clock) (s : Scope) (t : ℕ) → Good_piece c (Expression right clock s) → Only c (right_rule c.w left right x clock s t)
right_only c left right x clock s t g = if_only (length left == 1) (answer g) (answer g)

-- ---- definitions

last_or_only : (c : World) (b : Block) (x : Name) (inner outer : Scope) (t : ℕ) → Good_home c inner → Stood c outer → Only c (defined_or_last c.w b x inner outer t)
last_or_only c b x inner outer t h k = defined_only x b.body (λ yet. if_only yet (answer h) (answer k))

switch_found : (c : World) (p : Branch → Bool) (bs : List Branch) (on : Expr) (x : Name) (s : Scope) (t : ℕ) → Stood c s → Good_all c (map (λ b. Body (In_branch s on b)) bs) →
    Only c (branch_rule c.w (find p bs) on x s t)
switch_found c p [] on x s t g h = says
switch_found c p (b ∷ bs) on x s t g h = go (p b) refl (switch_found c p bs on x s t g h.1)
  where
    go : (d : Bool) → p b ≡ d → Only c (branch_rule c.w (find p bs) on x s t) → Only c (branch_rule c.w (find p (b ∷ bs)) on x s t)
    go true e r = rw e (last_or_only c b.block x (In_branch s on b) s t (body_home c (In_branch s on b) h.0) g)
    go false e r = rw e r

says_truth : (c : World) (b : Bool) (a : Answer) → Follows (Knows c.w c.rows) c.rows (Says (Is b)) a → is_true a ≡ true → b ≡ true
says_truth c b a said e = e

defines_left : (c : World) (e : Equation) (p : Place) (left : List Name) (right : Expr) (x : Name) (a : Answer) → out-Equation e ≡ Equation-F.Define p left right →
    Knows c.w c.rows (Defines x e) a → is_true a ≡ true → is_in x left ≡ true
defines_left c e p left right x a is k holds =
    says_truth c (is_in x left) a (subst (λ (f : Equation-F Equation Block Branch State). Follows (Knows c.w c.rows) c.rows (defines_rule c.w f x) a) is (by_rule c.w c.rows (Defines x e) a k)) holds

equation_only : (c : World) (e : Equation) (f : Equation-F Equation Block Branch State) (x : Name) (s : Scope) (t : ℕ) (a : Answer) → Good_piece c (Statement e s) → out-Equation e ≡ f →
    Good_all c (equation_pieces c.w f s) → Knows c.w c.rows (Defines x e) a → is_true a ≡ true → Only c (equation_rule c.w f x s t)
equation_only c e (Equation-F.Define p left right) x s t a g is h k holds =
    right_only c left right x (clock_seen c.w x s) s t
    (subst (λ (q : Clock). Good_piece c (Expression right q s)) (sym (c.lefts g.frame g.is_frame e s p left right x g.stands is (defines_left c e p left right x a is k holds))) h.0)
equation_only c e (Equation-F.Switch p on branches) x s t a g is h k holds =
    asks h.0 (λ b l. go_on_only b (λ v. switch_found c (λ d. tag_value c.w.types d.tag == v) branches on x s t (stood_of g) h.1))
equation_only c e (Equation-F.Reset p block every) x s t a g is h k holds = answer (body_home c (In_body s every block) h.0)
equation_only c e (Equation-F.Automaton p states) x s t a g is h k holds =
    let auto : Good_automaton c s states = record { equation = e; place = p; stands = g; is = is } in
    asks auto (λ b l. go_on_state_only b (λ n m. last_or_only c (state_block states n) x (In_state s states n) s t (state_home c s states n (slice_get states n) refl auto) (stood_of g)))

block_only : (c : World) (es : List Equation) (x : Name) (s : Scope) (t : ℕ) → Good_all c (map (λ e. Statement e s) es) → Only c (block_rule c.w es x s t)
block_only c [] x s t h = says
block_only c (e ∷ es) x s t h =
    asks tt (λ a k. if_known (is_true a) (λ holds. equation_only c e (out-Equation e) x s t a h.0 refl (good_inside_equation c e s h.0) k holds) (block_only c es x s t h.1))

core_found : (c : World) (p : CoreEquation → Bool) (es : List CoreEquation) (x : Name) (s : Scope) (t : ℕ) → Good_all c (map (λ e. Core_statement e s) es) → Only c (core_rule c.w (find p es) x s t)
core_found c p [] x s t h = says
core_found c p (e ∷ es) x s t h = go (p e) refl (core_found c p es x s t h.1)
  where
    go : (d : Bool) → p e ≡ d → Only c (core_rule c.w (find p es) x s t) → Only c (core_rule c.w (find p (e ∷ es)) x s t)
    go true is r = rw is (right_only c e.left e.right x e.clock.steps (Under s e.resets) t (good_inside_core c e s h.0))
    go false is r = rw is r

text_only : (c : World) (text : Text) (x : Name) (s : Scope) (t : ℕ) → Good_all c (body_pieces c.w text s) → Only c (defined_rule c.w text x s t)
text_only c (Written n node) x s t h = block_only c (block_of s).body x s t h
text_only c (Lowered node) x s t h = core_found c (λ e. is_in x e.left) node.equations x s t h

defines_only : (c : World) (f : Equation-F Equation Block Branch State) (x : Name) → Only c (defines_rule c.w f x)
defines_only c (Equation-F.Define p left right) x = says
defines_only c (Equation-F.Switch p on branches) x = defined_only x (flat_map (λ b. b.block.body) branches) (λ yet. says)
defines_only c (Equation-F.Reset p block every) x = defined_only x block.body (λ yet. says)
defines_only c (Equation-F.Automaton p states) x = defined_only x (flat_map (λ q. q.block.body) states) (λ yet. says)

-- ---- variables

argument_only : (c : World) (s : Scope) (clock : Clock) (place : ℕ) (args : List Expr) (text : Text) (j t : ℕ) (o : Option Expr) → slice_get args j ≡ o → Caller c s clock place args text →
    Only c (argument_rule c.w o clock s t)
argument_only c s clock place args text j t None is h = says
argument_only c s clock place args text j t (Some e) is h = answer (argument_good c s clock place args text j e h is)

own_only : (c : World) (s : Scope) (x : Name) (t : ℕ) → Good_home c s → Only c (own_rule c.w s x t)
own_only c (Top text) x t h = if_only (is_in x (inputs_of text)) reads (answer h)
own_only c (Called s clock place args text) x t h =
    if_only (is_in x (inputs_of text)) (argument_only c s clock place args text (place_in x (inputs_of text)) t _ refl (caller_of c s clock place args text h.stood)) (answer h)
own_only c (In_branch s on b) x t h = answer h
own_only c (In_body s every block) x t h = answer h
own_only c (In_state s states k) x t h = answer h
own_only c (Under s resets) x t h = answer h

variable_only : (c : World) (s : Scope) (x : Name) (t : ℕ) → Good_home c s → Only c (variable_rule c.w x s t)
variable_only c s x t h = present_only h.stood (own_only c s x t h)

constant_only : (c : World) (i : Option Init) → Only c (constant_of c.w i)
constant_only c None = says
constant_only c (Some i) = says

initial_only : (c : World) (d : Option Decl) → Only c (initial_rule c.w d)
initial_only c None = says
initial_only c (Some d) = constant_only c d.init

last_only : (c : World) (s : Scope) (x : Name) (t : ℕ) → Stood c s → Only c (last_rule c.w x s t)
last_only c s x t h = previous_only (λ p. Active s p) (λ p. Restarted s p) (λ p. answer_to (Variable x s p)) _ t (λ p. h) (λ p. h) (λ p. answer h)
    (initial_only c (find (λ d. same x d.name) (declared_in s)))

steps_only : (c : World) (clock : Clock) (s : Scope) (t : ℕ) → Stood c s → Only c (steps_hold c.w clock s t)
steps_only c [] s t h = says
steps_only c (one ∷ steps) s t h = asks h (λ a k. if_only (is_value (tag_value c.w.types one.tag) a) (steps_only c steps s t h) says)

-- ---- automata

taken_only : (c : World) (es : List Escape) (states : List State) (none : Answer) (s : Scope) (t : ℕ) → Good_all c (conditions es s) → Only c (taken c.w es states none s t)
taken_only c [] states none s t h = says
taken_only c (e ∷ es) states none s t h = asks h.0 (λ a k. if_only (is_true a) says (taken_only c es states none s t h.1))

strong_good : (c : World) (s : Scope) (states : List State) (k : ℕ) (o : Option State) → slice_get states k ≡ o → Good_automaton c s states → Good_all c (conditions (strong_of c.w o) s)
strong_good c s states k None is h = tt
strong_good c s states k (Some q) is h = (state_at c s states k q h is).strong

weak_good : (c : World) (s : Scope) (states : List State) (k : ℕ) (o : Option State) → slice_get states k ≡ o → Good_automaton c s states → Good_all c (conditions (weak_of c.w o) (In_state s states k))
weak_good c s states k None is h = tt
weak_good c s states k (Some q) is h = (state_at c s states k q h is).weak

pending_only : (c : World) (s : Scope) (states : List State) (t k : ℕ) (m : Bool) → Good_automaton c s states → Only c (from_pending c.w s states t k m)
pending_only c s states t k m h = taken_only c (strong_of c.w (slice_get states k)) states (State_at k m) s t (strong_good c s states k (slice_get states k) refl h)

active_state_only : (c : World) (s : Scope) (states : List State) (t : ℕ) → Good_automaton c s states → Only c (active_state_rule c.w s states t)
active_state_only c s states t h = present_only (stood_of h.stands)
    (previous_only (λ p. Active s p) (λ p. Restarted s p) (λ p. on_state (Left_state s states p) (from_pending c.w s states t)) (from_pending c.w s states t 0 false) t
    (λ p. stood_of h.stands) (λ p. stood_of h.stands) (λ p. asks h (λ a k. go_on_state_only a (λ n m. pending_only c s states t n m h))) (pending_only c s states t 0 false h))

left_state_only : (c : World) (s : Scope) (states : List State) (t : ℕ) → Good_automaton c s states → Only c (left_state_rule c.w s states t)
left_state_only c s states t h = asks h (λ a l. go_on_state_only a (λ k m.
    taken_only c (weak_of c.w (slice_get states k)) states (State_at k false) (In_state s states k) t (weak_good c s states k (slice_get states k) refl h)))

-- ---- scopes

active_in : (c : World) (s : Scope) (t : ℕ) (frame : Scope) → Stood c s → IsFrame c.w c.text frame → ScopeIn c.w frame s → Only c (active_rule c.w s t)
active_in c (Top text) t frame h f i = says
active_in c (Called s clock place args text) t frame h f i = answer (stood_of (caller_of c s clock place args text h).stands)
active_in c (In_branch s on b) t frame h f (at_body e root) = absurd root
active_in c (In_branch s on b) t frame h f (at_branch i o body) = asks (record { frame = frame; is_frame = f; scope = i; stands = o; written = tt }) (λ a k. says)
active_in c (In_body s every block) t frame h f (at_body e root) = absurd root
active_in c (In_body s every block) t frame h f (at_reset i o body) = answer (record { frame = frame; is_frame = f; scope = i })
active_in c (In_state s states k) t frame h f (at_body e root) = absurd root
active_in c (In_state s states k) t frame h f (at_state n node e p w i o is) =
    asks (record { equation = e; place = p; stands = record { frame = frame; is_frame = f; scope = i; stands = o; written = (n, node, w) }; is = is }) (λ a l. says)
active_in c (Under s resets) t frame h f (at_body e root) = absurd root
active_in c (Under s resets) t frame h f (at_right i) = answer (record { frame = frame; is_frame = f; scope = i })

some_only : (c : World) (xs : List Name) (s : Scope) (t : ℕ) → Stood c s → Only c (some_true c.w xs s t)
some_only c [] s t h = says
some_only c (x ∷ xs) s t h = asks h (λ a k. if_only (is_true a) says (some_only c xs s t h))

too_only : (c : World) (s : Scope) (t : ℕ) {d : Rule} → Stood c s → Only c d → Only c (restarted_too c.w s t d)
too_only c s t h k = asks h (λ a l. if_only (is_true a) says k)

restarted_in : (c : World) (s : Scope) (t : ℕ) (frame : Scope) → Stood c s → IsFrame c.w c.text frame → ScopeIn c.w frame s → Only c (restarted_rule c.w s t)
restarted_in c (Top text) t frame h f i = says
restarted_in c (Called s clock place args text) t frame h f i = answer (stood_of (caller_of c s clock place args text h).stands)
restarted_in c (In_branch s on b) t frame h f (at_body e root) = absurd root
restarted_in c (In_branch s on b) t frame h f (at_branch i o body) = answer (record { frame = frame; is_frame = f; scope = i })
restarted_in c (In_body s every block) t frame h f (at_body e root) = absurd root
restarted_in c (In_body s every block) t frame h f (at_reset i o body) =
    too_only c s t (record { frame = frame; is_frame = f; scope = i }) (asks (record { frame = frame; is_frame = f; scope = i; stands = o; written = tt }) (λ a k. says))
restarted_in c (In_state s states k) t frame h f (at_body e root) = absurd root
restarted_in c (In_state s states k) t frame h f (at_state n node e p w i o is) =
    too_only c s t (record { frame = frame; is_frame = f; scope = i })
    (asks (record { equation = e; place = p; stands = record { frame = frame; is_frame = f; scope = i; stands = o; written = (n, node, w) }; is = is }) (λ a l. says))
restarted_in c (Under s resets) t frame h f (at_body e root) = absurd root
restarted_in c (Under s resets) t frame h f (at_right i) =
    too_only c s t (record { frame = frame; is_frame = f; scope = i }) (some_only c resets s t (record { frame = frame; is_frame = f; scope = i }))

-- ---- each question

pub rule_only : (c : World) (q : Question) → Good c q → Only c (rule c.w q)
rule_only c (Gives e clock s t) h = present_only (stood_of h) (form_only c (out-Form e.form) e clock s t h (good_inside_form c e clock s h))
rule_only c (Output e j clock s t) h = present_only (stood_of h) (outputs_only c (out-Form e.form) e j clock s t h refl (good_inside_form c e clock s h))
rule_only c (Variable x s t) h = variable_only c (home x s) x t (home_good c x s h.frame h.is_frame h.scope)
rule_only c (Last x s t) h = last_only c (home x s) x t (home_good c x s h.frame h.is_frame h.scope).stood
rule_only c (Defined x s t) h = text_only c (text_of s) x s t h.body
rule_only c (Defines x e) h = defines_only c (out-Equation e) x
rule_only c (Present clock s t) h = asks h (λ a k. if_only (is_true a) (steps_only c clock s t h) says)
rule_only c (Active s t) h = active_in c s t h.frame h h.is_frame h.scope
rule_only c (Restarted s t) h = restarted_in c s t h.frame h h.is_frame h.scope
rule_only c (Active_state s states t) h = active_state_only c s states t h
rule_only c (Left_state s states t) h = left_state_only c s states t h

-- what a good question asks is good
pub good_asked : (c : World) (q p : Question) → Good c q → AskedBy c.w c.rows (rule c.w q) p → Good c p
good_asked c q p h m = only_asked c p (rule c.w q) (rule_only c q h) m
