-- What operands give, arguments and branches among them, as lists.
use Rattle.std.specs.Prelude.{ℕ, Bool, true, false, ◌&&◌, ◌==◌, if◌then◌else◌, slice_get, List, [], ◌∷◌, ◌++◌, length, map, Option, None, Some}
use Rattle.std.specs.List.{flat_map, list_all, list_any}
use Rattle.std.specs.Option.{option_map_or}
use Rattle.hept_ast.specs.Types.{alike, Fit, Misfit, Untyped, has_tags, async_fit, call_fit, fits_if, same_tag, same_types, types_of}
use Rattle.hept_ast.specs.Faults.{barred, node_named, type_of_variable, Duplicate, Fault, NotDefined, read_faults, Judged, Judging, NestedAsync, Recursive, nested, UnknownName, branch_fit, calls_lead, fault, judge_expr, judged, unknown_tag}
use Rattle.hept_ast.specs.declared.tree.Decl.{Decl}
use Rattle.hept_ast.specs.declared.tree.Expr.{Expr}
use Rattle.hept_ast.specs.declared.tree.MergeBranch.{MergeBranch}
use Rattle.hept_ast.specs.declared.tree.Node.{Node}
use Rattle.hept_ast.specs.Texts.{Name}
use Rattle.hept_ast.specs.declared.tree.Tag.{Tag}
use Rattle.hept_ast.specs.declared.tree.TypeDec.{TypeDec}
use Rattle.hept_ast.specs.declared.tree.Ty.{Ty}
use Rattle.expression_types.specs.Fits.{given, is_one}
use Rattle.declared_types.specs.Tags.{is_lacking}

abbrev pub types_given : Judged (List Ty) → Option (List Ty)
types_given j = j.types

abbrev pub faults_found : Judged (List Ty) → List Fault
faults_found j = j.faults

-- operands by what each gives
abbrev pub operands : List (Judged (List Ty)) → Judged (List (List Ty))
operands js = record { types = given (map types_given js); faults = flat_map faults_found js }

abbrev pub args_judged : Judging → List Expr → Judged (List (List Ty))
args_judged w args = operands (map (judge_expr w) args)

-- ---- `when` and `merge`

abbrev pub when_faults : Judging → ℕ → Tag → Name → List Fault
when_faults w p t x = read_faults w p x ++ fault p UnknownName (unknown_tag w t)

abbrev pub tag_in : MergeBranch → Tag
tag_in b = b.tag

abbrev pub is_lacking_if : List TypeDec → List MergeBranch → Option Ty → Bool
is_lacking_if types bs None = false
is_lacking_if types bs (Some on) = is_lacking types tag_in bs on

abbrev pub merge_faults : Judging → ℕ → Name → Option Ty → List MergeBranch → List Fault
merge_faults w p x on bs = read_faults w p x ++ fault p NotDefined (is_lacking_if w.types bs on)

-- what a merge gives, by whether its branches are of one type
abbrev pub merge_with : Option Ty → Fit → Fit
merge_with None alike = Untyped
merge_with (Some on) alike = if has_tags on then alike else Misfit

-- a branch's own faults, by whether an earlier one has its tag
abbrev pub tag_faults : Judging → (again : Bool) → MergeBranch → List Fault
tag_faults w again b = fault b.place.0 UnknownName (unknown_tag w b.tag) ++ fault b.place.0 Duplicate again

-- a branch of a merge, by whether an earlier one has its tag
abbrev pub branch_judged : Judging → Option Ty → (again : Bool) → MergeBranch → Judged (List Ty)
branch_judged w on again b = judged b.place.0 (tag_faults w again b) (judge_expr w b.value) (branch_fit w b.tag on)

abbrev pub each_branch : Judging → Option Ty → (earlier : List Tag) → List MergeBranch → List (Judged (List Ty))
each_branch w on earlier [] = []
each_branch w on earlier (b ∷ bs) = branch_judged w on (list_any (same_tag b.tag) earlier) b ∷ each_branch w on (b.tag ∷ earlier) bs

abbrev pub branches_judged : Judging → Option Ty → List MergeBranch → Judged (List (List Ty))
branches_judged w on bs = operands (each_branch w on [] bs)

-- ---- calls

-- whether arguments are of the types of inputs
abbrev pub takes : List Decl → List (List Ty) → Bool
takes inputs ts = same_types (types_of inputs) (flat_map (λ t. t) ts) && list_all (λ t. length t == 1) ts

-- what a call of a node or of an undeclared one gives
abbrev pub call_gives : (Fit → Fit) → Option Node → List (List Ty) → Fit
call_gives give None ts = Untyped
call_gives give (Some g) ts = give (call_fit g ts)

-- the faults of a call's own
abbrev pub call_faults : Judging → ℕ → Option Node → List Fault → List Fault
call_faults w p None own = record { place = p; kind = UnknownName } ∷ own
call_faults w p (Some g) own = fault p Recursive (calls_lead w.nodes g.name w.node.name) ++ own

abbrev pub inputs_of : Option Node → List Decl
inputs_of None = []
inputs_of (Some g) = g.inputs

-- the same, by whether the arguments are taken
abbrev pub call_if : (is_async : Bool) → Option Node → (taken : Bool) → Fit
call_if is_async None taken = Untyped
call_if true (Some g) taken = async_fit (fits_if taken (types_of g.outputs))
call_if false (Some g) taken = fits_if taken (types_of g.outputs)

abbrev pub nested_fault : Judging → ℕ → (is_async : Bool) → List Fault
nested_fault w p is_async = if is_async then fault p NestedAsync (nested w) else []

-- the faults of a call's own, by whether it is made by async
abbrev pub own_faults : Judging → ℕ → (is_async : Bool) → Option Node → List Fault
own_faults w p is_async g = call_faults w p g (nested_fault w p is_async)

-- whether an argument is of the type of the input at its position
abbrev pub is_input : List Decl → ℕ → List Ty → Bool
is_input inputs i t = option_map_or (λ d. is_one d.ty t) (slice_get inputs i) false

-- whether arguments are of the types of the first inputs
abbrev pub takes_first : List Decl → List (List Ty) → Bool
takes_first ds [] = true
takes_first [] (t ∷ ts) = false
takes_first (d ∷ ds) (t ∷ ts) = is_one d.ty t && takes_first ds ts

abbrev pub also_taken : Option Bool → Option Bool → Option Bool
also_taken (Some a) (Some b) = Some (a && b)
also_taken _ _ = None

-- a call, by what its arguments give
abbrev pub call_judged_by : Judging → ℕ → (is_async : Bool) → Name → List Expr → Judged (List Ty)
call_judged_by w p is_async f args =
    let g = node_named w.nodes f in
    judged p (own_faults w p is_async g) (args_judged w args) (λ ts. barred w (call_if is_async g (takes (inputs_of g) ts)))

-- a merge, by what its branches give
abbrev pub merge_judged : Judging → ℕ → Name → List MergeBranch → Judged (List Ty)
merge_judged w p x bs =
    let on = type_of_variable w x in
    judged p (merge_faults w p x on bs) (branches_judged w on bs) (λ ts. merge_with on (alike ts))
