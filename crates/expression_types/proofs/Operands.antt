-- What `judge` gives of each form, by lists of operands.
use Rattle.std.proofs.Common.{◌≡◌, ℕ, Bool, true, false, List, [], ◌∷◌, ◌++◌, refl, ◌∙◌, ap, append-nil, map}
use Rattle.std.specs.Prelude.{Option, None, Some, is_some, not, ◌&&◌}
use Rattle.std.specs.List.{flat_map}
use Rattle.hept_ast.specs.Types.{Fit, Fits, Untyped, alike, async_fit, binary_fit, call_fit, divides, get_fit, if_fit, type_of_const, unary_fit}
use Rattle.hept_ast.specs.Faults.{Fault, FutureKept, NestedAsync, Recursive, all_nonzero, calls_lead, is_kept, no_operands, node_named, with_operand, Judged, Judging, UnknownName, ZeroDivisor, append_types, barred, both, call_judged, const_judged, fault, is_nonzero, judge, judge_branches, judge_expr, judge_row, judged, last_judged, merge_fit, nested, pair_types, read_faults, lack_faults, tags_in, type_of_variable, unknown_tag, var_judged, when_fit}
use Rattle.hept_ast.specs.Parts.{declaration}
use Rattle.hept_ast.specs.declared.tree.Decl.{Decl}
use Rattle.hept_ast.specs.declared.tree.Expr.{Expr}
use Rattle.hept_ast.specs.declared.tree.Form.{Form, Const, Var, Last, Unary', Binary', If', Fby', Pre', Arrow', When', Merge', Call', AsyncCall', AsyncConst, Get'}
use Rattle.hept_ast.specs.declared.tree.Tag.{Tag}
use Rattle.hept_ast.specs.declared.tree.UnaryOp.{UnaryOp}
use Rattle.hept_ast.specs.declared.tree.BinaryOp.{BinaryOp}
use Rattle.hept_ast.specs.declared.tree.Node.{Node}
use Rattle.hept_ast.specs.declared.tree.Ty.{Ty}
use Rattle.hept_ast.specs.declared.tree.Ty.TheVariants as ty
use Rattle.hept_ast.specs.declared.tree.Form.TheVariants as form
use Rattle.hept_ast.proofs.JudgeOf.{judge-Unary, judge-Binary, judge-If, judge-Fby, judge-Arrow, judge-Pre, judge-When, judge-Get, one}
use Rattle.hept_ast.proofs.Unfolded.{static}
use Rattle.expression_types.specs.Fits.{given}
use Rattle.expression_types.specs.Judgings.{faults_found, operands, types_given}
use Rattle.expression_types.proofs.Judged.{Clean, judged-clean, judged_by-clean}

-- ---- what has types has no fault

pub clean_const : (w : Judging) (p : ℕ) (q : Option _) (give : _ → Ty) → Clean (const_judged w p q give).faults (const_judged w p q give).types
clean_const w p None give = tt
clean_const w p (Some t) give = refl

clean_var : (w : Judging) (p : ℕ) (under : Bool) (x : List ℕ) (q : Option Ty) → Clean (var_judged w p under x q).faults (var_judged w p under x q).types
clean_var w p under x None = tt
clean_var w p under x (Some t) = judged_by-clean p (fault p FutureKept (not under && is_kept w x t)) (Fits (t ∷ []))

clean_last : (w : Judging) (p : ℕ) (q : Option Decl) → Clean (last_judged w p q).faults (last_judged w p q).types
clean_last w p None = tt
clean_last w p (Some d) = judged_by-clean p (fault p UnknownName (not (is_some d.init))) (Fits (d.ty ∷ []))

clean_call : (w : Judging) (p : ℕ) (q : Option Node) (own : List Fault) (give : Fit → Fit) (args : Judged (List (List Ty))) → Clean (call_judged w p q own give args).faults (call_judged w p q own give args).types
clean_call w p None own give args = judged-clean p (record { place = p; kind = UnknownName } ∷ own) args (λ ts. barred w Untyped)
clean_call w p (Some g) own give args = judged-clean p (fault p Recursive (calls_lead w.nodes g.name w.node.name) ++ own) args (λ ts. barred w (give (call_fit g ts)))

pub judge-clean : (w : Judging) (under : Bool) (p : ℕ) (f : Form) → Clean (judge w under p f).faults (judge w under p f).types
unfolding static
judge-clean w under p (Const k) = clean_const w p (type_of_const w.types k) ty.Plain
judge-clean w under p (Var x) = clean_var w p under x (type_of_variable w x)
judge-clean w under p (Last x) = clean_last w p (declaration w.seen x)
judge-clean w under p (Unary' op s a) = judged-clean p [] (judge_row w false a) (unary_fit op)
judge-clean w under p (Binary' op s a t b) = judged-clean p (fault p ZeroDivisor (divides op && not (all_nonzero b))) (both (judge_row w false a) (judge_row w false b)) (binary_fit op)
judge-clean w under p (If' s c t a u b) = judged-clean p [] (both (judge_row w false c) (both (judge_row w false a) (judge_row w false b))) if_fit
judge-clean w under p (Fby' s a t b) = judged-clean p [] (both (judge_row w false a) (judge_row w false b)) (λ ts. barred w (alike ts))
judge-clean w under p (Pre' s a) = judged-clean p [] (judge_row w false a) (λ ts. barred w (alike ts))
judge-clean w under p (Arrow' s a t b) = judged-clean p [] (both (judge_row w false a) (judge_row w false b)) (λ ts. barred w (alike ts))
judge-clean w under p (When' s a t x) = judged-clean p (read_faults w p x ++ fault p UnknownName (unknown_tag w t)) (judge_row w false a) (when_fit w t (type_of_variable w x))
judge-clean w under p (Merge' x s bs) = judged-clean p (read_faults w p x ++ lack_faults w p (tags_in w bs) (type_of_variable w x)) (judge_branches w (type_of_variable w x) [] bs) (merge_fit w (type_of_variable w x))
judge-clean w under p (Call' f s args) = clean_call w p (node_named w.nodes f) [] (λ g. g) (judge_row w false args)
judge-clean w under p (AsyncCall' q f s args) = clean_call w p (node_named w.nodes f) (fault p NestedAsync (nested w)) async_fit (judge_row w false args)
judge-clean w under p (AsyncConst k) = judged-clean p [] (const_judged w p (type_of_const w.types k) ty.Future) (λ ts. barred w (Fits ts))
judge-clean w under p (Get' s a) = judged-clean p [] (judge_row w true a) (λ ts. barred w (get_fit ts))

abbrev pub AllClean : List (Judged (List Ty)) → Type 0
AllClean [] = Unit {0}
AllClean (j ∷ js) = Clean j.faults j.types × AllClean js

pair_clean : (t : Option (List Ty)) (ts : Option (List (List Ty))) (fs gs : List Fault) → Clean fs t → Clean gs ts → Clean (fs ++ gs) (pair_types t ts)
pair_clean None ts fs gs c d = tt
pair_clean (Some t) None fs gs c d = tt
pair_clean (Some t) (Some ts) fs gs c d = ap (λ l. l ++ gs) c ∙ d

pub operands-clean : (js : List (Judged (List Ty))) → AllClean js → Clean (operands js).faults (operands js).types
operands-clean [] c = refl
operands-clean (j ∷ js) c = pair_clean j.types (given (map types_given js)) j.faults (flat_map faults_found js) c.0 (operands-clean js c.1)

-- ---- operands in a list

two_types : (a b : Option (List Ty)) → append_types (given (a ∷ [])) (given (b ∷ [])) ≡ given (a ∷ b ∷ [])
two_types None b = refl
two_types (Some t) None = refl
two_types (Some t) (Some u) = refl

two_faults : (fs gs : List Fault) → (fs ++ []) ++ (gs ++ []) ≡ fs ++ (gs ++ [])
two_faults fs gs = ap (λ l. l ++ (gs ++ [])) (append-nil fs)

two : (a b : Judged (List Ty)) → both (with_operand a no_operands) (with_operand b no_operands) ≡ operands (a ∷ b ∷ [])
two a b =
    ap (λ t. let r : Judged (List (List Ty)) = record { types = t; faults = (a.faults ++ []) ++ (b.faults ++ []) } in r) (two_types a.types b.types)
    ∙ ap (λ l. let r : Judged (List (List Ty)) = record { types = given (a.types ∷ b.types ∷ []); faults = l } in r) (two_faults a.faults b.faults)

three_types : (a : Option (List Ty)) (q : Option (List (List Ty))) → append_types (given (a ∷ [])) q ≡ pair_types a q
three_types None q = refl
three_types (Some t) None = refl
three_types (Some t) (Some ts) = refl

three : (c a b : Judged (List Ty)) → both (with_operand c no_operands) (operands (a ∷ b ∷ [])) ≡ operands (c ∷ a ∷ b ∷ [])
three c a b =
    ap (λ t. let r : Judged (List (List Ty)) = record { types = t; faults = (c.faults ++ []) ++ flat_map faults_found (a ∷ b ∷ []) } in r) (three_types c.types (given (a.types ∷ b.types ∷ [])))
    ∙ ap (λ l. let r : Judged (List (List Ty)) = record { types = given (c.types ∷ a.types ∷ b.types ∷ []); faults = l ++ flat_map faults_found (a ∷ b ∷ []) } in r) (append-nil c.faults)

and_true : (b : Bool) → b && true ≡ b
and_true true = refl
and_true false = refl

-- ---- the forms with operands

pub form-Unary : (w : Judging) (under : Bool) (p : ℕ) (op : UnaryOp) (a : Expr) → judge w under p (form.Unary op a) ≡ judged p [] (operands (judge_expr w a ∷ [])) (unary_fit op)
form-Unary w under p op a = judge-Unary w under p op a

pub form-Binary : (w : Judging) (under : Bool) (p : ℕ) (op : BinaryOp) (a b : Expr)
    → judge w under p (form.Binary op a b) ≡ judged p (fault p ZeroDivisor (divides op && not (is_nonzero b.form))) (operands (judge_expr w a ∷ judge_expr w b ∷ [])) (binary_fit op)
form-Binary w under p op a b =
    judge-Binary w under p op a b
    ∙ ap (λ n. judged p (fault p ZeroDivisor (divides op && not n)) (both (one w false a) (one w false b)) (binary_fit op)) (and_true (is_nonzero b.form))
    ∙ ap (λ o. judged p (fault p ZeroDivisor (divides op && not (is_nonzero b.form))) o (binary_fit op)) (two (judge_expr w a) (judge_expr w b))

pub form-If : (w : Judging) (under : Bool) (p : ℕ) (c a b : Expr) → judge w under p (form.If c a b) ≡ judged p [] (operands (judge_expr w c ∷ judge_expr w a ∷ judge_expr w b ∷ [])) if_fit
form-If w under p c a b =
    judge-If w under p c a b
    ∙ ap (λ o. judged p [] (both (one w false c) o) if_fit) (two (judge_expr w a) (judge_expr w b))
    ∙ ap (λ o. judged p [] o if_fit) (three (judge_expr w c) (judge_expr w a) (judge_expr w b))

pub form-Fby : (w : Judging) (under : Bool) (p : ℕ) (a b : Expr) → judge w under p (form.Fby a b) ≡ judged p [] (operands (judge_expr w a ∷ judge_expr w b ∷ [])) (λ ts. barred w (alike ts))
form-Fby w under p a b = judge-Fby w under p a b ∙ ap (λ o. judged p [] o (λ ts. barred w (alike ts))) (two (judge_expr w a) (judge_expr w b))

pub form-Arrow : (w : Judging) (under : Bool) (p : ℕ) (a b : Expr) → judge w under p (form.Arrow a b) ≡ judged p [] (operands (judge_expr w a ∷ judge_expr w b ∷ [])) (λ ts. barred w (alike ts))
form-Arrow w under p a b = judge-Arrow w under p a b ∙ ap (λ o. judged p [] o (λ ts. barred w (alike ts))) (two (judge_expr w a) (judge_expr w b))

pub form-Pre : (w : Judging) (under : Bool) (p : ℕ) (a : Expr) → judge w under p (form.Pre a) ≡ judged p [] (operands (judge_expr w a ∷ [])) (λ ts. barred w (alike ts))
form-Pre w under p a = judge-Pre w under p a

pub form-When : (w : Judging) (under : Bool) (p : ℕ) (a : Expr) (t : Tag) (x : List ℕ)
    → judge w under p (form.When a t x) ≡ judged p (read_faults w p x ++ fault p UnknownName (unknown_tag w t)) (operands (judge_expr w a ∷ [])) (when_fit w t (type_of_variable w x))
form-When w under p a t x = judge-When w under p a t x

pub form-Get : (w : Judging) (under : Bool) (p : ℕ) (a : Expr) → judge w under p (form.Get a) ≡ judged p [] (operands (judge w true a.place.0 a.form ∷ [])) (λ ts. barred w (get_fit ts))
form-Get w under p a = judge-Get w under p a
