-- What is found of an expression and what it gives, by what its operands give.
use Rattle.std.proofs.Common.{◌≡◌, ℕ, Bool, true, false, List, [], ◌∷◌, refl, sym, ◌∙◌, ap, append-nil, map, subst}
use Rattle.std.specs.Prelude.{Option, None, Some}
use Rattle.std.specs.List.{flat_map}
use Rattle.std.specs.Option.{option_map}
use Rattle.hept_ast.specs.Types.{Fit, Fits, alike, type_of_const}
use Rattle.hept_ast.specs.Faults.{Fault, Kind, fault, Judged, Judging, barred, branch_fit, const_judged, judge, judge_expr, judged, node_named, type_of_variable}
use Rattle.hept_ast.specs.Limits.{earlier_of, earliest}
use Rattle.hept_ast.specs.declared.tree.Const.{Const}
use Rattle.hept_ast.specs.declared.tree.Expr.{Expr}
use Rattle.hept_ast.specs.declared.tree.MergeBranch.{MergeBranch}
use Rattle.hept_ast.specs.declared.tree.Node.{Node}
use Rattle.hept_ast.specs.declared.tree.Ty.{Ty}
use Rattle.hept_ast.specs.declared.tree.Ty.TheVariants as ty
use Rattle.hept_ast.proofs.Earliest.{earlier_of-none, earliest-nil}
use Rattle.expression_types.specs.Fits.{fit_of, given, mismatch, settled, stands}
use Rattle.expression_types.specs.Judgings.{args_judged, branch_judged, branches_judged, call_if, call_judged_by, each_branch, faults_found, inputs_of, merge_faults, merge_judged, merge_with, operands, own_faults, tag_faults, takes}
use Rattle.declared_types.specs.Types.{types_in}
use Rattle.expression_types.specs.declared.fits.Fit.{Fit as HeldFit}
use Rattle.declared_types.specs.declared.given.Types.{Types as HeldTypes}
use Rattle.expression_types.proofs.Judged.{Clean, judged-found, judged-types}
use Rattle.earliest_fault.proofs.Noting.{noted_both}
use Rattle.expression_types.proofs.Operands.{clean_const, judge-clean, operands-clean}
use Rattle.expression_types.proofs.Rows.{args-clean, branches-clean}

-- the faults are noted, and the types are given
abbrev pub Gives : Judged (List Ty) → (first last : Option Fault) → Option HeldTypes → Type 0
Gives j first last t = (last ≡ earlier_of first (earliest j.faults)) × (option_map types_in t ≡ j.types)

pub gives_too : (j k : Judged (List Ty)) (first last : Option Fault) (t : Option HeldTypes) → j ≡ k → Gives k first last t → Gives j first last t
gives_too j k first last t e g = subst (λ x. Gives x first last t) (sym e) g

pub nothing_noted : (first : Option Fault) → first ≡ earlier_of first (earliest [])
nothing_noted first = sym (ap (earlier_of first) earliest-nil ∙ earlier_of-none first)

pub settled_gives : {A : Type 0} (p : ℕ) (own : List Fault) (js : Judged A) (fit : A → Fit) (first noted inner last : Option Fault) (wrong : Bool) (f : Option HeldFit) (t : Option HeldTypes)
    → Clean js.faults js.types → noted ≡ earlier_of first (earliest own) → wrong ≡ stands own → inner ≡ earlier_of noted (earliest js.faults) → option_map fit_of f ≡ option_map fit js.types
    → last ≡ earlier_of inner (earliest (mismatch p (option_map fit_of f))) → option_map types_in t ≡ settled (option_map fit_of f) wrong → Gives (judged p own js fit) first last t
settled_gives p own js fit first noted inner last wrong f t clean e d g same h k = (
  judged-found p own js fit first noted inner last e g (h ∙ ap (λ x. earlier_of inner (earliest (mismatch p x))) same),
  k ∙ (ap (λ x. settled x wrong) same ∙ (ap (settled (option_map fit js.types)) d ∙ sym (judged-types p own js fit clean))),
)

-- the operands' faults, one operand after the other
found_one : (j : Judged (List Ty)) (first last : Option Fault) → last ≡ earlier_of first (earliest j.faults) → last ≡ earlier_of first (earliest (flat_map faults_found (j ∷ [])))
found_one j first last e = e ∙ ap (λ l. earlier_of first (earliest l)) (sym (append-nil j.faults))

found_more : (j : Judged (List Ty)) (js : List (Judged (List Ty))) (first o last : Option Fault) → o ≡ earlier_of first (earliest j.faults) → last ≡ earlier_of o (earliest (flat_map faults_found js))
    → last ≡ earlier_of first (earliest (flat_map faults_found (j ∷ js)))
found_more j js first o last e h = noted_both j.faults (flat_map faults_found js) first o last e h

-- an expression, as it is judged
abbrev pub at : Judging → Bool → Expr → Judged (List Ty)
at w under e = judge w under e.place.0 e.form

clean_at : (w : Judging) (under : Bool) (e : Expr) → Clean (at w under e).faults (at w under e).types
clean_at w under e = judge-clean w under e.place.0 e.form

pub of_one : (w : Judging) (under : Bool) (a : Expr) (p : ℕ) (own : List Fault) (fit : List (List Ty) → Fit) (first noted inner last : Option Fault) (wrong : Bool) (r : Option HeldTypes) (f : Option HeldFit) (t : Option HeldTypes)
    → noted ≡ earlier_of first (earliest own) → wrong ≡ stands own
    → inner ≡ earlier_of noted (earliest (at w under a).faults) → option_map types_in r ≡ (at w under a).types
    → option_map fit_of f ≡ option_map fit (given (option_map types_in r ∷ []))
    → last ≡ earlier_of inner (earliest (mismatch p (option_map fit_of f))) → option_map types_in t ≡ settled (option_map fit_of f) wrong
    → Gives (judged p own (operands (at w under a ∷ [])) fit) first last t
of_one w under a p own fit first noted inner last wrong r f t e d ga ta same h k =
    settled_gives p own (operands (at w under a ∷ [])) fit first noted inner last wrong f t
    (operands-clean (at w under a ∷ []) (clean_at w under a, tt)) e d (found_one (at w under a) noted inner ga)
    (same ∙ ap (λ x. option_map fit (given (x ∷ []))) ta) h k

pub of_two : (w : Judging) (a b : Expr) (p : ℕ) (own : List Fault) (fit : List (List Ty) → Fit) (first noted left inner last : Option Fault) (wrong : Bool) (r s : Option HeldTypes) (f : Option HeldFit) (t : Option HeldTypes)
    → noted ≡ earlier_of first (earliest own) → wrong ≡ stands own
    → left ≡ earlier_of noted (earliest (at w false a).faults) → option_map types_in r ≡ (at w false a).types
    → inner ≡ earlier_of left (earliest (at w false b).faults) → option_map types_in s ≡ (at w false b).types
    → option_map fit_of f ≡ option_map fit (given (option_map types_in r ∷ option_map types_in s ∷ []))
    → last ≡ earlier_of inner (earliest (mismatch p (option_map fit_of f))) → option_map types_in t ≡ settled (option_map fit_of f) wrong
    → Gives (judged p own (operands (at w false a ∷ at w false b ∷ [])) fit) first last t
of_two w a b p own fit first noted left inner last wrong r s f t e d ga ta gb tb same h k =
    settled_gives p own (operands (at w false a ∷ at w false b ∷ [])) fit first noted inner last wrong f t
    (operands-clean (at w false a ∷ at w false b ∷ []) (clean_at w false a, (clean_at w false b, tt))) e d
    (found_more (at w false a) (at w false b ∷ []) noted left inner ga (found_one (at w false b) left inner gb))
    (same ∙ (ap (λ x. option_map fit (given (x ∷ option_map types_in s ∷ []))) ta ∙ ap (λ x. option_map fit (given ((at w false a).types ∷ x ∷ []))) tb)) h k

pub of_three : (w : Judging) (x a b : Expr) (p : ℕ) (fit : List (List Ty) → Fit) (first middle left inner last : Option Fault) (q r s : Option HeldTypes) (f : Option HeldFit) (t : Option HeldTypes)
    → middle ≡ earlier_of first (earliest (at w false x).faults) → option_map types_in q ≡ (at w false x).types
    → left ≡ earlier_of middle (earliest (at w false a).faults) → option_map types_in r ≡ (at w false a).types
    → inner ≡ earlier_of left (earliest (at w false b).faults) → option_map types_in s ≡ (at w false b).types
    → option_map fit_of f ≡ option_map fit (given (option_map types_in q ∷ option_map types_in r ∷ option_map types_in s ∷ []))
    → last ≡ earlier_of inner (earliest (mismatch p (option_map fit_of f))) → option_map types_in t ≡ settled (option_map fit_of f) false
    → Gives (judged p [] (operands (at w false x ∷ at w false a ∷ at w false b ∷ [])) fit) first last t
of_three w x a b p fit first middle left inner last q r s f t gx tx ga ta gb tb same h k =
    settled_gives p [] (operands (at w false x ∷ at w false a ∷ at w false b ∷ [])) fit first first inner last false f t
    (operands-clean (at w false x ∷ at w false a ∷ at w false b ∷ []) (clean_at w false x, (clean_at w false a, (clean_at w false b, tt)))) (nothing_noted first) refl
    (found_more (at w false x) (at w false a ∷ at w false b ∷ []) first middle inner gx (found_more (at w false a) (at w false b ∷ []) middle left inner ga (found_one (at w false b) left inner gb)))
    (same ∙ (ap (λ y. option_map fit (given (y ∷ option_map types_in r ∷ option_map types_in s ∷ []))) tx
    ∙ (ap (λ y. option_map fit (given ((at w false x).types ∷ y ∷ option_map types_in s ∷ []))) ta ∙ ap (λ y. option_map fit (given ((at w false x).types ∷ (at w false a).types ∷ y ∷ []))) tb))) h k

-- what a strong condition may not hold
pub barred_fit : {A : Type 0} (w : Judging) (fit : A → Fit) (q : Option A) (f g : Option HeldFit) → option_map fit_of f ≡ option_map fit q → option_map fit_of g ≡ option_map (barred w) (option_map fit_of f)
    → option_map fit_of g ≡ option_map (λ ts. barred w (fit ts)) q
barred_fit w fit q f g e h = h ∙ (ap (option_map (barred w)) e ∙ composed w fit q)
  where
    composed : {A : Type 0} (w : Judging) (fit : A → Fit) (q : Option A) → option_map (barred w) (option_map fit q) ≡ option_map (λ ts. barred w (fit ts)) q
    composed w fit None = refl
    composed w fit (Some ts) = refl

composed : {A : Type 0} (f : A → Fit) (g : Fit → Fit) (q : Option A) → option_map g (option_map f q) ≡ option_map (λ ts. g (f ts)) q
composed f g None = refl
composed f g (Some ts) = refl

-- a call, by whether its arguments are taken
pub call_gives : (w : Judging) (p : ℕ) (is_async : Bool) (f : List ℕ) (args : List Expr) (g : Option Node) (first noted inner last : Option Fault) (wrong : Bool) (taken : Option Bool) (fit last_fit : Option HeldFit) (t : Option HeldTypes)
    → g ≡ node_named w.nodes f → noted ≡ earlier_of first (earliest (own_faults w p is_async g)) → wrong ≡ stands (own_faults w p is_async g)
    → inner ≡ earlier_of noted (earliest (args_judged w args).faults) → taken ≡ option_map (takes (inputs_of g)) (args_judged w args).types
    → option_map fit_of fit ≡ option_map (call_if is_async g) taken → option_map fit_of last_fit ≡ option_map (barred w) (option_map fit_of fit)
    → last ≡ earlier_of inner (earliest (mismatch p (option_map fit_of last_fit))) → option_map types_in t ≡ settled (option_map fit_of last_fit) wrong
    → Gives (call_judged_by w p is_async f args) first last t
call_gives w p is_async f args g first noted inner last wrong taken fit last_fit t named e d found k same bar h s =
    let js = args_judged w args in
    gives_too (call_judged_by w p is_async f args) (judged p (own_faults w p is_async g) js (λ ts. barred w (call_if is_async g (takes (inputs_of g) ts)))) first last t
    (ap (λ n. judged p (own_faults w p is_async n) js (λ ts. barred w (call_if is_async n (takes (inputs_of n) ts)))) (sym named))
    (settled_gives p (own_faults w p is_async g) js (λ ts. barred w (call_if is_async g (takes (inputs_of g) ts))) first noted inner last wrong last_fit t
    (operands-clean (map (judge_expr w) args) (args-clean w args)) e d found
    (bar ∙ (ap (option_map (barred w)) (same ∙ ap (option_map (call_if is_async g)) k) ∙ (ap (option_map (barred w)) (composed_if is_async g js.types) ∙ composed (λ ts. call_if is_async g (takes (inputs_of g) ts)) (barred w) js.types)))
    h s)
  where
    composed_if : (is_async : Bool) (g : Option Node) (q : Option (List (List Ty))) → option_map (call_if is_async g) (option_map (takes (inputs_of g)) q) ≡ option_map (λ ts. call_if is_async g (takes (inputs_of g) ts)) q
    composed_if is_async g None = refl
    composed_if is_async g (Some ts) = refl

-- a merge, by whether its branches are alike
pub merge_gives : (w : Judging) (p : ℕ) (x : List ℕ) (bs : List MergeBranch) (on : Option Ty) (first noted inner last : Option Fault) (wrong : Bool) (alike_fit fit : Option HeldFit) (t : Option HeldTypes)
    → on ≡ type_of_variable w x → noted ≡ earlier_of first (earliest (merge_faults w p x on bs)) → wrong ≡ stands (merge_faults w p x on bs)
    → inner ≡ earlier_of noted (earliest (branches_judged w on bs).faults) → option_map fit_of alike_fit ≡ option_map alike (branches_judged w on bs).types
    → option_map fit_of fit ≡ option_map (merge_with on) (option_map fit_of alike_fit)
    → last ≡ earlier_of inner (earliest (mismatch p (option_map fit_of fit))) → option_map types_in t ≡ settled (option_map fit_of fit) wrong
    → Gives (merge_judged w p x bs) first last t
merge_gives w p x bs on first noted inner last wrong alike_fit fit t typed e d found k same h s =
    let js = branches_judged w on bs in
    gives_too (merge_judged w p x bs) (judged p (merge_faults w p x on bs) js (λ ts. merge_with on (alike ts))) first last t
    (ap (λ q. judged p (merge_faults w p x q bs) (branches_judged w q bs) (λ ts. merge_with q (alike ts))) (sym typed))
    (settled_gives p (merge_faults w p x on bs) js (λ ts. merge_with on (alike ts)) first noted inner last wrong fit t
    (operands-clean (each_branch w on [] bs) (branches-clean w on [] bs)) e d found
    (same ∙ (ap (option_map (merge_with on)) k ∙ composed alike (merge_with on) js.types))
    h s)

-- a branch of a merge
pub branch_gives : (w : Judging) (on : Option Ty) (again : Bool) (b : MergeBranch) (first noted inner last : Option Fault) (wrong : Bool) (r : Option HeldTypes) (fit : Option HeldFit) (t : Option HeldTypes)
    → noted ≡ earlier_of first (earliest (tag_faults w again b)) → wrong ≡ stands (tag_faults w again b)
    → inner ≡ earlier_of noted (earliest (judge_expr w b.value).faults) → option_map types_in r ≡ (judge_expr w b.value).types
    → option_map fit_of fit ≡ option_map (branch_fit w b.tag on) (option_map types_in r)
    → last ≡ earlier_of inner (earliest (mismatch b.place.0 (option_map fit_of fit))) → option_map types_in t ≡ settled (option_map fit_of fit) wrong
    → Gives (branch_judged w on again b) first last t
branch_gives w on again b first noted inner last wrong r fit t e d found k same h s =
    settled_gives b.place.0 (tag_faults w again b) (judge_expr w b.value) (branch_fit w b.tag on) first noted inner last wrong fit t
    (judge-clean w false b.value.place.0 b.value.form) e d found (same ∙ ap (option_map (branch_fit w b.tag on)) k) h s

-- a constant that is written with `async`
pub ready_gives : (w : Judging) (p : ℕ) (k : Const) (first inner last : Option Fault) (r : Option HeldTypes) (fit last_fit : Option HeldFit) (t : Option HeldTypes)
    → inner ≡ earlier_of first (earliest (const_judged w p (type_of_const w.types k) ty.Future).faults) → option_map types_in r ≡ (const_judged w p (type_of_const w.types k) ty.Future).types
    → option_map fit_of fit ≡ option_map Fits (option_map types_in r) → option_map fit_of last_fit ≡ option_map (barred w) (option_map fit_of fit)
    → last ≡ earlier_of inner (earliest (mismatch p (option_map fit_of last_fit))) → option_map types_in t ≡ settled (option_map fit_of last_fit) false
    → Gives (judged p [] (const_judged w p (type_of_const w.types k) ty.Future) (λ ts. barred w (Fits ts))) first last t
ready_gives w p k first inner last r fit last_fit t found e same bar h s =
    let js = const_judged w p (type_of_const w.types k) ty.Future in
    settled_gives p [] js (λ ts. barred w (Fits ts)) first first inner last false last_fit t
    (clean_const w p (type_of_const w.types k) ty.Future) (nothing_noted first) refl found
    (barred_fit w Fits js.types fit last_fit (same ∙ ap (option_map Fits) e) bar) h s

pub stands-fault : (p : ℕ) (k : Kind) (b : Bool) → stands (fault p k b) ≡ b
stands-fault p k true = refl
stands-fault p k false = refl
