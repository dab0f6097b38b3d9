-- Arguments and branches, one after the other.
use Rattle.std.proofs.Common.{◌≡◌, ℕ, zero, suc, ◌+◌, ◌<◌, ◌≤◌, Bool, true, false, List, [], ◌∷◌, ◌++◌, length, take, get_or, map, refl, sym, ◌∙◌, ap, arith, append-nil, add-one, subst}
use Rattle.std.proofs.Math.Dec.{eqb-suc-suc, eqb-zero-suc}
use Rattle.std.proofs.Math.Seq.{take-suc}
use Rattle.std.proofs.lemmas.Grind.{flat_map-append}
use Rattle.std.proofs.lemmas.List.{length-map, length-take-le, map-append}
use Rattle.std.specs.Prelude.{Option, None, Some, not, ◌&&◌, ◌||◌, ◌==◌}
use Rattle.std.specs.List.{flat_map, list_all, list_any}
use Rattle.std.specs.Option.{option_map}
use Rattle.std.proofs.lemmas.Bool.Decides.{nat_tests}
use Rattle.hept_ast.specs.Types.{alike, async_fit, same_tag, same_type, same_types, tags_of, types_of}
use Rattle.hept_ast.specs.Faults.{Fault, Judged, Judging, NestedAsync, NotDefined, append_types, barred, call_judged, fault, judge, judge_expr, judged, lack_faults, merge_fit, nested, node_named, pair_types, read_faults, type_of_variable, with_operand}
use Rattle.hept_ast.specs.Limits.{earlier_of, earliest}
use Rattle.hept_ast.specs.declared.tree.Decl.{Decl}
use Rattle.hept_ast.specs.declared.tree.Expr.{Expr}
use Rattle.hept_ast.specs.declared.tree.MergeBranch.{MergeBranch}
use Rattle.hept_ast.specs.declared.tree.Node.{Node}
use Rattle.hept_ast.specs.declared.tree.Tag.{Tag}
use Rattle.hept_ast.specs.declared.tree.Ty.{Ty}
use Rattle.hept_ast.specs.declared.tree.Form.TheVariants as form
use Rattle.hept_ast.proofs.JudgeOf.{branch_row, judge-AsyncCall, judge-Call, judge-Merge, row}
use Rattle.expression_types.specs.Fits.{also_alike, fit_of, given, is_one}
use Rattle.expression_types.specs.Judgings.{also_taken, args_judged, branch_judged, branches_judged, call_faults, call_if, call_judged_by, each_branch, faults_found, inputs_of, is_input, is_lacking_if, merge_faults, merge_judged, merge_with, operands, tag_in, takes, takes_first, types_given}
use Rattle.declared_types.specs.Tags.{is_left_out}
use Rattle.declared_types.specs.Types.{types_in}
use Rattle.expression_types.specs.declared.fits.Fit.{Fit as HeldFit}
use Rattle.declared_types.specs.declared.given.Types.{Types as HeldTypes}
use Rattle.expression_types.proofs.Alike.{given-more, also_alike-given}
use Rattle.expression_types.proofs.Judged.{judged-clean}
use Rattle.earliest_fault.proofs.Noting.{any_mapped, noted_both}
use Rattle.expression_types.proofs.Operands.{AllClean, judge-clean}

-- ---- arguments

row_is : (w : Judging) (args : List Expr) → row w false args ≡ args_judged w args
row_is w [] = refl
row_is w (e ∷ es) = ap (λ js. with_operand (judge_expr w e) js) (row_is w es)

pub args-clean : (w : Judging) (args : List Expr) → AllClean (map (judge_expr w) args)
args-clean w [] = tt
args-clean w (e ∷ es) = (judge-clean w false e.place.0 e.form, args-clean w es)

call_is : (w : Judging) (p : ℕ) (g : Option Node) (own : List Fault) (args : Judged (List (List Ty))) → call_judged w p g own (λ f. f) args ≡ judged p (call_faults w p g own) args (λ ts. barred w (call_if false g (takes (inputs_of g) ts)))
call_is w p None own args = refl
call_is w p (Some g) own args = refl

async_is : (w : Judging) (p : ℕ) (g : Option Node) (own : List Fault) (args : Judged (List (List Ty))) → call_judged w p g own async_fit args ≡ judged p (call_faults w p g own) args (λ ts. barred w (call_if true g (takes (inputs_of g) ts)))
async_is w p None own args = refl
async_is w p (Some g) own args = refl

pub form-Call : (w : Judging) (under : Bool) (p : ℕ) (f : List ℕ) (args : List Expr) → judge w under p (form.Call f args) ≡ call_judged_by w p false f args
form-Call w under p f args = judge-Call w under p f args ∙ (ap (λ js. call_judged w p (node_named w.nodes f) [] (λ g. g) js) (row_is w args) ∙ call_is w p (node_named w.nodes f) [] (args_judged w args))

pub form-AsyncCall : (w : Judging) (under : Bool) (p : ℕ) (q : ℕ) (f : List ℕ) (args : List Expr) → judge w under p (form.AsyncCall q f args) ≡ call_judged_by w p true f args
form-AsyncCall w under p q f args =
    judge-AsyncCall w under p q f args
    ∙ (ap (λ js. call_judged w p (node_named w.nodes f) (fault p NestedAsync (nested w)) async_fit js) (row_is w args) ∙ async_is w p (node_named w.nodes f) (fault p NestedAsync (nested w)) (args_judged w args))

take_more : {X : Type 0} (xs : List X) (i : ℕ) (d : X) → i < length xs → take (i + 1) xs ≡ take i xs ++ get_or xs i d ∷ []
take_more xs i d h = rw add-one (take-suc xs i d h)

-- what arguments give, one more among them
given_more : (w : Judging) (args : List Expr) (i : ℕ) (d : Expr) → i < length args
    → given (map types_given (map (judge_expr w) (take (i + 1) args))) ≡ append_types (given (map types_given (map (judge_expr w) (take i args)))) (given ((judge_expr w (get_or args i d)).types ∷ []))
given_more w args i d h =
    ap (λ es. given (map types_given (map (judge_expr w) es))) (take_more args i d h)
    ∙ (ap (λ js. given (map types_given js)) (map-append (judge_expr w) (take i args) (get_or args i d ∷ []))
    ∙ (ap given (map-append types_given (map (judge_expr w) (take i args)) (judge_expr w (get_or args i d) ∷ []))
    ∙ given-more (map types_given (map (judge_expr w) (take i args))) (judge_expr w (get_or args i d)).types))

-- where operands have types, there are as many
abbrev AreMany : ℕ → Option (List (List Ty)) → Type 0
AreMany n None = Unit {0}
AreMany n (Some ts) = length ts ≡ n

pair_many : (n : ℕ) (a : Option (List Ty)) (q : Option (List (List Ty))) → AreMany n q → AreMany (suc n) (pair_types a q)
pair_many n None q h = tt
pair_many n (Some t) None h = tt
pair_many n (Some t) (Some ts) h = omega arith

given_many : (xs : List (Option (List Ty))) → AreMany (length xs) (given xs)
given_many [] = refl
given_many (a ∷ xs) = pair_many (length xs) a (given xs) (given_many xs)

many_of : (w : Judging) (es : List Expr) → AreMany (length es) (given (map types_given (map (judge_expr w) es)))
many_of w es = subst (λ n. AreMany n (given (map types_given (map (judge_expr w) es)))) (length-map (map (judge_expr w) es) types_given ∙ length-map es (judge_expr w)) (given_many (map types_given (map (judge_expr w) es)))

input_here : (d : Decl) (ds : List Decl) (n : ℕ) (t : List Ty) → is_input (d ∷ ds) (suc n) t ≡ is_input ds n t
input_here d ds n t = refl

and_assoc : (a b c : Bool) → a && (b && c) ≡ (a && b) && c
and_assoc true b c = refl
and_assoc false b c = refl

and_true : (b : Bool) → b && true ≡ b
and_true true = refl
and_true false = refl

and_false : (b : Bool) → b && false ≡ false
and_false true = refl
and_false false = refl

takes_more : (ds : List Decl) (ts : List (List Ty)) (t : List Ty) → takes_first ds (ts ++ t ∷ []) ≡ takes_first ds ts && is_input ds (length ts) t
takes_more [] [] t = refl
takes_more (d ∷ ds) [] t = and_true (is_one d.ty t)
takes_more [] (u ∷ ts) t = refl
takes_more (d ∷ ds) (u ∷ ts) t = ap (λ b. is_one d.ty u && b) (takes_more ds ts t) ∙ and_assoc (is_one d.ty u) (takes_first ds ts) (is_input ds (length ts) t)

taken_more : (ds : List Decl) (q : Option (List (List Ty))) (a : Option (List Ty)) (n : ℕ) → AreMany n q → option_map (takes_first ds) (append_types q (given (a ∷ []))) ≡ also_taken (option_map (takes_first ds) q) (option_map (is_input ds n) a)
taken_more ds None None n h = refl
taken_more ds None (Some t) n h = refl
taken_more ds (Some ts) None n h = refl
taken_more ds (Some ts) (Some t) n h = ap Some (takes_more ds ts t ∙ ap (λ k. takes_first ds ts && is_input ds k t) h)

pub taken_step : (w : Judging) (ds : List Decl) (args : List Expr) (i : ℕ) (x : Expr) (k q : Option Bool) (r : Option HeldTypes) → i < length args
    → k ≡ option_map (takes_first ds) (given (map types_given (map (judge_expr w) (take i args)))) → x ≡ get_or args i x → option_map types_in r ≡ (judge_expr w x).types → q ≡ also_taken k (option_map (is_input ds i) (option_map types_in r))
    → q ≡ option_map (takes_first ds) (given (map types_given (map (judge_expr w) (take (i + 1) args))))
taken_step w ds args i x k q r h e same g f =
    let n : length (take i args) ≡ i = length-take-le i args (omega arith) in
    f ∙ (ap (λ b. also_taken b (option_map (is_input ds i) (option_map types_in r))) e
    ∙ (ap (λ t. also_taken (option_map (takes_first ds) (given (map types_given (map (judge_expr w) (take i args))))) (option_map (is_input ds i) t)) (g ∙ ap (λ y. (judge_expr w y).types) same)
    ∙ (sym (taken_more ds (given (map types_given (map (judge_expr w) (take i args)))) (judge_expr w (get_or args i x)).types i (subst (λ m. AreMany m (given (map types_given (map (judge_expr w) (take i args))))) n (many_of w (take i args))))
    ∙ ap (option_map (takes_first ds)) (sym (given_more w args i x h)))))

-- the arguments are taken where there are as many as inputs
same_count : (b e st al tf : Bool) → (tf && e) ≡ (st && al) → ((b && true) && tf) && e ≡ (b && st) && (true && al)
same_count true e st al tf h = h
same_count false e st al tf h = refl

takes_all : (ds : List Decl) (ts : List (List Ty)) → takes_first ds ts && (length ts == length ds) ≡ takes ds ts
takes_all [] [] = refl
takes_all (d ∷ ds) [] = eqb-zero-suc (length ds)
takes_all [] ([] ∷ ts) = sym (and_false (same_types [] (flat_map (λ t. t) ts)))
takes_all [] ((s ∷ t) ∷ ts) = refl
takes_all (d ∷ ds) ([] ∷ ts) = sym (and_false (same_types (types_of (d ∷ ds)) (flat_map (λ t. t) ts)))
takes_all (d ∷ ds) ((s ∷ []) ∷ ts) =
    ap (λ b. ((same_type d.ty s && true) && takes_first ds ts) && b) (eqb-suc-suc (length ts) (length ds))
    ∙ same_count (same_type d.ty s) (length ts == length ds) (same_types (types_of ds) (flat_map (λ t. t) ts)) (list_all (λ t. length t == 1) ts) (takes_first ds ts) (takes_all ds ts)
takes_all (d ∷ ds) ((s ∷ u ∷ t) ∷ ts) =
    let e : (length (s ∷ u ∷ t) == 1) ≡ false = grind (arith, nat_tests) in
    ap (λ b. (b && takes_first ds ts) && (length ((s ∷ u ∷ t) ∷ ts) == length (d ∷ ds))) (and_false (same_type d.ty s))
    ∙ sym (ap (λ b. same_types (types_of (d ∷ ds)) (flat_map (λ t. t) ((s ∷ u ∷ t) ∷ ts)) && (b && list_all (λ t. length t == 1) ts)) e ∙ and_false (same_types (types_of (d ∷ ds)) (flat_map (λ t. t) ((s ∷ u ∷ t) ∷ ts))))

taken_all : (ds : List Decl) (n : ℕ) (q : Option (List (List Ty))) → AreMany n q → option_map (λ b. b && (n == length ds)) (option_map (takes_first ds) q) ≡ option_map (takes ds) q
taken_all ds n None h = refl
taken_all ds n (Some ts) h = ap Some (ap (λ k. takes_first ds ts && (k == length ds)) (sym h) ∙ takes_all ds ts)

whole : {X : Type 0} (xs : List X) (i : ℕ) → length xs ≤ i → take i xs ≡ xs
whole [] zero h = refl
whole [] (suc i) h = refl
whole (x ∷ xs) zero h = absurd (omega arith)
whole (x ∷ xs) (suc i) h = ap (λ t. x ∷ t) (whole xs i (omega arith))

pub taken_whole : (w : Judging) (ds : List Decl) (args : List Expr) (i : ℕ) (k q : Option Bool) → length args ≤ i
    → k ≡ option_map (takes_first ds) (given (map types_given (map (judge_expr w) (take i args)))) → q ≡ option_map (λ b. b && (length args == length ds)) k
    → q ≡ option_map (takes ds) (args_judged w args).types
taken_whole w ds args i k q h e f =
    f ∙ (ap (option_map (λ b. b && (length args == length ds))) (e ∙ ap (λ es. option_map (takes_first ds) (given (map types_given (map (judge_expr w) es)))) (whole args i h))
    ∙ taken_all ds (length args) (args_judged w args).types (many_of w args))

-- ---- branches

branches_are : (w : Judging) (on : Option Ty) (earlier : List Tag) (bs : List MergeBranch) → branch_row w on earlier bs ≡ operands (each_branch w on earlier bs)
branches_are w on earlier [] = refl
branches_are w on earlier (b ∷ bs) = ap (λ js. with_operand (branch_judged w on (list_any (same_tag b.tag) earlier) b) js) (branches_are w on (b.tag ∷ earlier) bs)

pub branches-clean : (w : Judging) (on : Option Ty) (earlier : List Tag) (bs : List MergeBranch) → AllClean (each_branch w on earlier bs)
branches-clean w on earlier [] = tt
branches-clean w on earlier (b ∷ bs) = (judged-clean b.place.0 _ (judge_expr w b.value) _, branches-clean w on (b.tag ∷ earlier) bs)

any_same : {X : Type 0} (p q : X → Bool) → ((x : X) → p x ≡ q x) → (xs : List X) → list_any p xs ≡ list_any q xs
any_same p q h [] = refl
any_same p q h (x ∷ xs) = ap (λ b. b || list_any p xs) (h x) ∙ ap (λ b. q x || b) (any_same p q h xs)

lacks_is : (w : Judging) (p : ℕ) (bs : List MergeBranch) (on : Option Ty) → lack_faults w p (map (λ b. b.tag) bs) on ≡ fault p NotDefined (is_lacking_if w.types bs on)
lacks_is w p bs None = refl
lacks_is w p bs (Some on) = ap (λ b. fault p NotDefined b) (any_same (λ t. not (list_any (same_tag t) (map (λ b. b.tag) bs))) (is_left_out tag_in bs) (λ t. ap not (any_mapped (same_tag t) (λ b. b.tag) bs)) (tags_of w.types on))

fit_is : (w : Judging) (p : ℕ) (own : List Fault) (js : Judged (List (List Ty))) (on : Option Ty) → judged p own js (merge_fit w on) ≡ judged p own js (λ ts. merge_with on (alike ts))
fit_is w p own js None = refl
fit_is w p own js (Some on) = refl

pub form-Merge : (w : Judging) (under : Bool) (p : ℕ) (x : List ℕ) (bs : List MergeBranch) → judge w under p (form.Merge x bs) ≡ merge_judged w p x bs
form-Merge w under p x bs =
    let on = type_of_variable w x in
    judge-Merge w under p x bs
    ∙ (ap (λ l. judged p (read_faults w p x ++ l) (branch_row w on [] bs) (merge_fit w on)) (lacks_is w p bs on)
    ∙ (ap (λ js. judged p (merge_faults w p x on bs) js (merge_fit w on)) (branches_are w on [] bs)
    ∙ fit_is w p (merge_faults w p x on bs) (branches_judged w on bs) on))

or_swap : (a b c : Bool) → a || (b || c) ≡ (b || a) || c
or_swap true true c = refl
or_swap true false c = refl
or_swap false true c = refl
or_swap false false c = refl

or_no : (a : Bool) → a || false ≡ a
or_no true = refl
or_no false = refl

each_more : (w : Judging) (on : Option Ty) (earlier : List Tag) (bs : List MergeBranch) (i : ℕ) (d : MergeBranch) → i < length bs
    → each_branch w on earlier (take (suc i) bs)
    ≡ each_branch w on earlier (take i bs) ++ branch_judged w on (list_any (λ x. same_tag (get_or bs i d).tag x.tag) (take i bs) || list_any (same_tag (get_or bs i d).tag) earlier) (get_or bs i d) ∷ []
each_more w on earlier [] i d h = absurd (omega arith)
each_more w on earlier (b ∷ bs) zero d h = refl
each_more w on earlier (b ∷ bs) (suc i) d h =
    let e = get_or bs i d in
    ap (λ js. branch_judged w on (list_any (same_tag b.tag) earlier) b ∷ js) (each_more w on (b.tag ∷ earlier) bs i d (omega arith)
    ∙ ap (λ again. each_branch w on (b.tag ∷ earlier) (take i bs) ++ branch_judged w on again e ∷ [])
    (or_swap (list_any (λ x. same_tag e.tag x.tag) (take i bs)) (same_tag e.tag b.tag) (list_any (same_tag e.tag) earlier)))

-- one more branch
one_more : (w : Judging) (on : Option Ty) (bs : List MergeBranch) (i : ℕ) (x : MergeBranch) (again : Bool) → i < length bs → x ≡ get_or bs i x → again ≡ list_any (λ b. same_tag x.tag b.tag) (take i bs)
    → each_branch w on [] (take (i + 1) bs) ≡ each_branch w on [] (take i bs) ++ branch_judged w on again x ∷ []
one_more w on bs i x again h same e =
    rw add-one (each_more w on [] bs i x h
    ∙ (ap (λ a. each_branch w on [] (take i bs) ++ branch_judged w on a (get_or bs i x) ∷ []) (or_no (list_any (λ b. same_tag (get_or bs i x).tag b.tag) (take i bs)))
    ∙ (ap (λ y. each_branch w on [] (take i bs) ++ branch_judged w on (list_any (λ b. same_tag y.tag b.tag) (take i bs)) y ∷ []) (sym same)
    ∙ ap (λ a. each_branch w on [] (take i bs) ++ branch_judged w on a x ∷ []) (sym e))))

pub branch_found : (w : Judging) (on : Option Ty) (bs : List MergeBranch) (i : ℕ) (x : MergeBranch) (again : Bool) (first o last : Option Fault) → i < length bs
    → o ≡ earlier_of first (earliest (flat_map faults_found (each_branch w on [] (take i bs)))) → x ≡ get_or bs i x → again ≡ list_any (λ b. same_tag x.tag b.tag) (take i bs)
    → last ≡ earlier_of o (earliest (branch_judged w on again x).faults) → last ≡ earlier_of first (earliest (flat_map faults_found (each_branch w on [] (take (i + 1) bs))))
branch_found w on bs i x again first o last h e same g f =
    noted_both (flat_map faults_found (each_branch w on [] (take i bs))) (branch_judged w on again x).faults first o last e f
    ∙ ap (λ l. earlier_of first (earliest l))
    (ap (λ l. flat_map faults_found (each_branch w on [] (take i bs)) ++ l) (sym (append-nil (branch_judged w on again x).faults))
    ∙ (sym (flat_map-append faults_found (each_branch w on [] (take i bs)) (branch_judged w on again x ∷ []))
    ∙ ap (flat_map faults_found) (sym (one_more w on bs i x again h same g))))

pub branch_alike : (w : Judging) (on : Option Ty) (bs : List MergeBranch) (i : ℕ) (x : MergeBranch) (again : Bool) (k q : Option HeldFit) (r : Option HeldTypes) → i < length bs
    → option_map fit_of k ≡ option_map alike (given (map types_given (each_branch w on [] (take i bs)))) → x ≡ get_or bs i x → again ≡ list_any (λ b. same_tag x.tag b.tag) (take i bs)
    → option_map types_in r ≡ (branch_judged w on again x).types → option_map fit_of q ≡ also_alike (option_map fit_of k) (option_map types_in r)
    → option_map fit_of q ≡ option_map alike (given (map types_given (each_branch w on [] (take (i + 1) bs))))
branch_alike w on bs i x again k q r h e same g t f =
    f ∙ (ap (λ b. also_alike b (option_map types_in r)) e
    ∙ (ap (also_alike (option_map alike (given (map types_given (each_branch w on [] (take i bs)))))) t
    ∙ (sym (also_alike-given (map types_given (each_branch w on [] (take i bs))) (branch_judged w on again x).types)
    ∙ ap (λ l. option_map alike (given l))
    (sym (map-append types_given (each_branch w on [] (take i bs)) (branch_judged w on again x ∷ []))
    ∙ ap (map types_given) (sym (one_more w on bs i x again h same g))))))
