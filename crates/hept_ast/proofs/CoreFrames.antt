-- In the text of a core's node no statement of a program stands.
use Rattle.std.proofs.Common.{◌≡◌, List, [], ◌∷◌, ◌++◌, Option, Some, None, map, refl, sym, ap, subst}
use Rattle.std.specs.List.{find}
use Rattle.std.specs.Option.{option_map}
use Rattle.hept_ast.specs.Texts.{same}
use Rattle.hept_ast.specs.Scopes.{Clock, Text, Lowered, Scope, text_of}
use Rattle.hept_ast.specs.Meaning.{Setting, call_of}
use Rattle.hept_ast.specs.Sites.{Piece, Expression, Statement, Core_statement, Body, expressions, body_pieces}
use Rattle.hept_ast.specs.Settings.{Marks, Replies, of_core}
use Rattle.hept_ast.specs.Paths.{IsAmong, at_head, in_tail, form_inside, inside, StandsIn, itself, deeper, IsFrame, whole_text, of_call, CoreLeftsAgree}
use Rattle.hept_ast.specs.declared.tree.Expr.{Expr}
use Rattle.hept_ast.specs.declared.tree.MergeBranch.{MergeBranch}
use Rattle.hept_ast.specs.declared.tree.Form.{Form, out-Form}
use Rattle.hept_ast.specs.declared.tree.Form.TheOpen.{Form-F}
use Rattle.hept_ast.specs.declared.tree.Core.{Core}
use Rattle.hept_ast.specs.declared.tree.CoreNode.{CoreNode}
use Rattle.hept_ast.specs.declared.tree.CoreEquation.{CoreEquation}

-- a text of a core
record Is_lowered (text : Text) : Type 0 where
  node : CoreNode
  is : text ≡ Lowered node

abbrev Low : Piece → Type 0
Low (Expression e clock s) = Is_lowered (text_of s)
Low (Statement e s) = ⊥
Low (Core_statement e s) = Is_lowered (text_of s)
Low (Body s) = Is_lowered (text_of s)

abbrev All_low : List Piece → Type 0
All_low [] = Unit {0}
All_low (p ∷ ps) = Low p × All_low ps

low_at : (p : Piece) (ps : List Piece) → All_low ps → IsAmong p ps → Low p
low_at p ps h at_head = h.0
low_at p ps h (in_tail {rest = rest} i) = low_at p rest h.1 i

low_expressions : (es : List Expr) (clock : Clock) (s : Scope) → Is_lowered (text_of s) → All_low (expressions es clock s)
low_expressions [] clock s h = tt
low_expressions (e ∷ es) clock s h = (h, low_expressions es clock s h)

low_values : (bs : List MergeBranch) (clock : MergeBranch → Clock) (s : Scope) → Is_lowered (text_of s) → All_low (map (λ b. Expression b.value (clock b) s) bs)
low_values [] clock s h = tt
low_values (b ∷ bs) clock s h = (h, low_values bs clock s h)

low_form : (w : Setting) (f : Form-F Form Expr MergeBranch) (e : Expr) (clock : Clock) (s : Scope) → Is_lowered (text_of s) → All_low (form_inside w f e clock s)
low_form w (Form-F.Const k) e clock s h = tt
low_form w (Form-F.Var x) e clock s h = tt
low_form w (Form-F.Last x) e clock s h = tt
low_form w (Form-F.Unary op a) e clock s h = (h, tt)
low_form w (Form-F.Binary op a b) e clock s h = (h, (h, tt))
low_form w (Form-F.If k a b) e clock s h = (h, (h, (h, tt)))
low_form w (Form-F.Fby a b) e clock s h = (h, (h, tt))
low_form w (Form-F.Pre a) e clock s h = (h, tt)
low_form w (Form-F.Arrow a b) e clock s h = (h, (h, tt))
low_form w (Form-F.When a tag x) e clock s h = (h, tt)
low_form w (Form-F.Merge x branches) e clock s h = low_values branches (λ b. clock ++ record { tag = b.tag; name = x } ∷ []) s h
low_form w (Form-F.Call f args) e clock s h = low_expressions args clock s h
low_form w (Form-F.AsyncCall q f args) e clock s h = low_expressions args clock s h
low_form w (Form-F.AsyncConst k) e clock s h = tt
low_form w (Form-F.Get a) e clock s h = (h, tt)

low_cores : (es : List CoreEquation) (s : Scope) → Is_lowered (text_of s) → All_low (map (λ e. Core_statement e s) es)
low_cores [] s h = tt
low_cores (e ∷ es) s h = (h, low_cores es s h)

low_body : (w : Setting) (s : Scope) → Is_lowered (text_of s) → All_low (body_pieces w (text_of s) s)
low_body w s h = subst (λ (text : Text). All_low (body_pieces w text s)) (sym h.is) (low_cores h.node.equations s h)

low_inside : (w : Setting) (p : Piece) → Low p → All_low (inside w p)
low_inside w (Expression e clock s) h = low_form w (out-Form e.form) e clock s h
low_inside w (Statement e s) h = absurd h
low_inside w (Core_statement e s) h = (h, tt)
low_inside w (Body s) h = low_body w s h

low_stands : (w : Setting) (p q : Piece) → Low p → StandsIn w p q → Low q
low_stands w p q h itself = h
low_stands w p q h (deeper {part = m} i s) = low_stands w m q (low_at m (inside w p) (low_inside w p h) i) s

-- ---- the frames of a core

no_some : {A : Type 0} {x : A} → None ≡ Some x → ⊥
no_some e = cc

same_some : {A : Type 0} {x y : A} → Some x ≡ Some y → x ≡ y
same_some e = cc

lowered_by : (o : Option CoreNode) (args given : List Expr) (text : Text) → option_map {U = List Expr × Text} (λ x. (given, x)) (option_map {U = Text} Lowered o) ≡ Some (args, text) → Is_lowered text
lowered_by None args given text e = absurd (no_some e)
lowered_by (Some node) args given text e = record { node = node; is = sym (ap (λ (d : List Expr × Text). d.1) (same_some e)) }

called_low : (core : Core) (marked : Marks) (replies : Replies) (f : Form-F Form Expr MergeBranch) (args : List Expr) (text : Text) → call_of (of_core core marked replies) f ≡ Some (args, text) → Is_lowered text
called_low core marked replies (Form-F.Call g given) args text is = lowered_by (find (λ n. same g n.name) core.nodes) args given text is
called_low core marked replies (Form-F.AsyncCall q g given) args text is = lowered_by (find (λ n. same g n.name) core.nodes) args given text is
called_low core marked replies _ args text is = absurd (no_some is)

frame_low : (core : Core) (marked : Marks) (replies : Replies) (node : CoreNode) (frame : Scope) → IsFrame (of_core core marked replies) (Lowered node) frame → Is_lowered (text_of frame)
frame_low core marked replies node frame whole_text = record { node = node; is = refl }
frame_low core marked replies node frame (of_call {args = args} {called = called} e f i o call at) = called_low core marked replies (out-Form e.form) args called call

pub core_lefts_agree : CoreLeftsAgree
core_lefts_agree core marked replies node frame f e s p left right x stands is among =
    absurd (low_stands (of_core core marked replies) (Body frame) (Statement e s) (frame_low core marked replies node frame f) stands)
