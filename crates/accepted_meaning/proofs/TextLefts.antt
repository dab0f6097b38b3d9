-- The variables of a left side are on one clock, wherever the equation stands in the expanded text.
use Rattle.std.proofs.Common.{◌≡◌, ℕ, Bool, true, false, ◌||◌, List, [], ◌∷◌, ◌++◌, refl, sym, ap, subst, ◌∙◌}
use Rattle.std.specs.Prelude.{Some, slice_get}
use Rattle.hept_ast.specs.Texts.{Name, same, is_in}
use Rattle.hept_ast.specs.Scopes.{Clock, Scope, Called}
use Rattle.hept_ast.specs.Meaning.{clock_seen}
use Rattle.hept_ast.specs.Sites.{Piece, Expression, Statement, Core_statement, Body, callee_pieces, expressions, form_pieces, clock_of_left}
use Rattle.hept_ast.specs.Meaning.{call_of}
use Rattle.hept_ast.specs.Paths.{IsFrame, whole_text, of_call, LeftsAgree, form_inside, inside, itself, deeper}
use Rattle.hept_ast.specs.Paths as paths
use Rattle.hept_ast.specs.declared.tree.Expr.{Expr}
use Rattle.hept_ast.specs.declared.tree.MergeBranch.{MergeBranch}
use Rattle.hept_ast.specs.declared.tree.Ty.{Ty}
use Rattle.hept_ast.specs.declared.tree.Form.{Form, out-Form}
use Rattle.hept_ast.specs.declared.tree.Form.TheOpen.{Form-F}
use Rattle.sound_expressions.specs.Sound.{Within}
use Rattle.accepted_meaning.specs.SoundNodes.{SoundLeft, SoundProgram, no_left, a_left}
use Rattle.accepted_meaning.specs.Placing.{site_of}
use Rattle.accepted_meaning.specs.Running.{Run, StandsIn, setting_of, text_run}
use Rattle.accepted_meaning.proofs.FitsTexts.{sound_define, clock_here}
use Rattle.accepted_meaning.proofs.SentSites.{HasLefts}
use Rattle.accepted_meaning.proofs.TextLists.{not_both, same_is}
use Rattle.accepted_meaning.proofs.TextPieces.{AllSound, IsSoundPiece, SoundBody, SoundExpression, SoundStatement, called_stands, sound_among, sound_pieces, top_sound}

all_right : (r : Run) (ps qs : List Piece) → AllSound r (ps ++ qs) → AllSound r qs
all_right r [] qs h = h
all_right r (p ∷ ps) qs h = all_right r ps qs h.1

inside_form : (r : Run) (v : Form-F Form Expr MergeBranch) (e : Expr) (c : Clock) (s : Scope) → AllSound r (form_pieces (setting_of r) v e c s) → AllSound r (form_inside (setting_of r) v e c s)
inside_form r (Form-F.Call f args) e c s h = all_right r (callee_pieces (setting_of r) (call_of (setting_of r) (Form-F.Call f args)) e.place.0 c s) (expressions args c s) h
inside_form r (Form-F.Const k) e c s h = h
inside_form r (Form-F.Var x) e c s h = h
inside_form r (Form-F.Last x) e c s h = h
inside_form r (Form-F.Unary op a) e c s h = h
inside_form r (Form-F.Binary op a b) e c s h = h
inside_form r (Form-F.If i a b) e c s h = h
inside_form r (Form-F.Fby a b) e c s h = h
inside_form r (Form-F.Pre a) e c s h = h
inside_form r (Form-F.Arrow a b) e c s h = h
inside_form r (Form-F.When a tag x) e c s h = h
inside_form r (Form-F.Merge x bs) e c s h = h
inside_form r (Form-F.AsyncCall q f args) e c s h = h
inside_form r (Form-F.AsyncConst k) e c s h = h
inside_form r (Form-F.Get a) e c s h = h

module _ (r : Run) (program : SoundProgram r.program) (lefts : HasLefts r) where
  inside_sound : (p : Piece) → IsSoundPiece r p → AllSound r (inside (setting_of r) p)
  inside_sound (Expression e c s) h = inside_form r (out-Form e.form) e c s (sound_pieces r program lefts (Expression e c s) h)
  inside_sound (Statement e s) h = sound_pieces r program lefts (Statement e s) h
  inside_sound (Core_statement e s) h = absurd h
  inside_sound (Body s) h = sound_pieces r program lefts (Body s) h

  -- what stands in a sound piece is sound
  pub standing_sound : (p q : Piece) → paths.StandsIn (setting_of r) p q → IsSoundPiece r p → IsSoundPiece r q
  standing_sound p q itself h = h
  standing_sound p q (deeper {part = part} among rest) h = standing_sound part q rest (sound_among r part (inside (setting_of r) p) (inside_sound p h) among)

  module _ (chosen : slice_get r.program.program.nodes r.number ≡ Some r.node) where
    -- and so are the bodies of called nodes
    pub frame_sound : (frame : Scope) → IsFrame (setting_of r) (text_run r) frame → SoundBody r frame
    frame_sound frame whole_text = top_sound r program chosen
    frame_sound frame (of_call {frame = outer} {s = s} {clock = c} {args = args} {called = text} e is_frame scope stands call place_is) =
        let whole : SoundExpression r e c s = standing_sound (Body outer) (Expression e c s) stands (frame_sound outer is_frame) in
        subst (λ (p : ℕ). SoundBody r (Called s c p args text)) place_is (called_stands r program e c s args text whole call)

left_clock : (r : Run) (k : Within) (s : Scope) (c : Clock) (left : List Name) (ts : List Ty) (x : Name) → StandsIn r k s → SoundLeft k (site_of s) c left ts → is_in x left ≡ true → clock_seen (setting_of r) x s ≡ c
left_clock r k s c left ts x stands no_left e = not_both false e refl
left_clock r k s c left ts x stands (a_left {x = y} {xs = ys} {d = d} {ts = us} sees input rest) e = go (same x y) refl e (left_clock r k s c ys us x stands rest)
  where
    go : (b : Bool) → same x y ≡ b → (b || is_in x ys) ≡ true → (is_in x ys ≡ true → clock_seen (setting_of r) x s ≡ c) → clock_seen (setting_of r) x s ≡ c
    go true f g more = ap (λ z. clock_seen (setting_of r) z s) (same_is x y f) ∙ clock_here r k s y d c stands sees
    go false f g more = more g

first_clock : (r : Run) (k : Within) (s : Scope) (c : Clock) (left : List Name) (ts : List Ty) (x : Name) → StandsIn r k s → SoundLeft k (site_of s) c left ts → is_in x left ≡ true → clock_of_left (setting_of r) left s ≡ c
first_clock r k s c left ts x stands no_left e = not_both false e refl
first_clock r k s c left ts x stands (a_left {x = y} {d = d} sees input rest) e = clock_here r k s y d c stands sees

pub lefts_agree : (r : Run) → SoundProgram r.program → HasLefts r → slice_get r.program.program.nodes r.number ≡ Some r.node → LeftsAgree (setting_of r) (text_run r)
lefts_agree r program lefts chosen frame is_frame e s p left right x stands is inside =
    let h : SoundStatement r e s = standing_sound r program lefts (Body frame) (Statement e s) stands (frame_sound r program lefts chosen frame is_frame) in
    let o = sound_define r h.within s e p left right h.equation is in
    left_clock r h.within s o.0 left o.1 x h.equation.stands o.3 inside ∙ sym (first_clock r h.within s o.0 left o.1 x h.equation.stands o.3 inside)
