use Rattle.std.proofs.Common.{arith, ◌≡◌, ℕ, ◌<◌, ◌≤◌, length, List, [], ◌∷◌, slice_index_or, refl, ap, ◌∙◌, sym, subst}
use Rattle.hept_ast.specs.declared.tree.MergeBranch.{MergeBranch}
use Rattle.std.proofs.lemmas.Result.{IfOk-weaker}
use Rattle.hept_ast.specs.declared.tree.Form.TheVariants as form
use Rattle.hept_ast.specs.Faults.{type_of_variable}
use Rattle.normal_form.specs.OneType.{IsOutputOf, IsTypeOf, IsValueOf}
use Rattle.normal_form.specs.Scenes.{judging_in}
use Rattle.normal_form.proofs.TypesGiven.{type-Arrow, type-AsyncCall, type-AsyncConst, type-Binary, type-Call, type-Const, type-Fby, type-Get, type-If, type-Last, type-Merge, type-Pre, type-Unary, type-Var, type-When, type-empty}
use Rattle.normal_form.proofs.types.+type_of.Goals as goal

pub returns-in-Var : goal.returns-in-Var
returns-in-Var t c =
    let w = judging_in c.args.scene.now in
    IfOk-weaker c.variable_type.result (IsValueOf (type_of_variable w c.in-Var.name)) (IsTypeOf w c.args.e.now) (λ u h. type-Var w c.args.e.now c.in-Var.name u c.in-Var.is h) c.variable_type.ensures

pub returns-in-Last : goal.returns-in-Last
returns-in-Last t c =
    let w = judging_in c.args.scene.now in
    IfOk-weaker c.variable_type-in-Last.result (IsValueOf (type_of_variable w c.in-Last.name)) (IsTypeOf w c.args.e.now) (λ u h. type-Last w c.args.e.now c.in-Last.name u c.in-Last.is h) c.variable_type-in-Last.ensures

pub returns-in-If : goal.returns-in-If
returns-in-If t c =
    let w = judging_in c.args.scene.now in
    let a = c.get.result.now in
    let is : c.args.e.now.form ≡ form.If c.in-If.field-0 a c.in-If.field-2 = cc in
    IfOk-weaker c.type_of.result (IsTypeOf w a) (IsTypeOf w c.args.e.now) (λ u h. type-If w c.args.e.now c.in-If.field-0 a c.in-If.field-2 u is h) c.type_of.ensures

pub returns-in-Fby : goal.returns-in-Fby
returns-in-Fby t c =
    let w = judging_in c.args.scene.now in
    let a = c.get-in-Fby.result.now in
    let is : c.args.e.now.form ≡ form.Fby a c.in-Fby.field-1 = cc in
    IfOk-weaker c.type_of-in-Fby.result (IsTypeOf w a) (IsTypeOf w c.args.e.now) (λ u h. type-Fby w c.args.e.now a c.in-Fby.field-1 u is h) c.type_of-in-Fby.ensures

pub returns-in-Call : goal.returns-in-Call
returns-in-Call t c =
    let w = judging_in c.args.scene.now in
    IfOk-weaker c.output_type.result (IsOutputOf w c.in-Call.name) (IsTypeOf w c.args.e.now) (λ u h. type-Call w c.args.e.now c.in-Call.name c.in-Call.field-1 u c.in-Call.is h) c.output_type.ensures

pub returns-in-Unary : goal.returns-in-Unary
returns-in-Unary t c =
    let w = judging_in c.args.scene.now in
    subst (IsTypeOf w c.args.e.now) (sym c.unary_type.ensures) (type-Unary w c.args.e.now c.in-Unary.op c.in-Unary.field-1 c.in-Unary.is)

pub returns-in-Binary : goal.returns-in-Binary
returns-in-Binary t c =
    let w = judging_in c.args.scene.now in
    subst (IsTypeOf w c.args.e.now) (sym c.binary_type.ensures) (type-Binary w c.args.e.now c.in-Binary.op c.in-Binary.field-1 c.in-Binary.field-2 c.in-Binary.is)

pub returns-in-Pre : goal.returns-in-Pre
returns-in-Pre t c =
    let w = judging_in c.args.scene.now in
    let a = c.get-in-Pre.result.now in
    let is : c.args.e.now.form ≡ form.Pre a = cc in
    IfOk-weaker c.type_of-in-Pre.result (IsTypeOf w a) (IsTypeOf w c.args.e.now) (λ u h. type-Pre w c.args.e.now a u is h) c.type_of-in-Pre.ensures

pub returns-in-Arrow : goal.returns-in-Arrow
returns-in-Arrow t c =
    let w = judging_in c.args.scene.now in
    let a = c.get-in-Arrow.result.now in
    let is : c.args.e.now.form ≡ form.Arrow a c.in-Arrow.field-1 = cc in
    IfOk-weaker c.type_of-in-Arrow.result (IsTypeOf w a) (IsTypeOf w c.args.e.now) (λ u h. type-Arrow w c.args.e.now a c.in-Arrow.field-1 u is h) c.type_of-in-Arrow.ensures

pub returns-in-When : goal.returns-in-When
returns-in-When t c =
    let w = judging_in c.args.scene.now in
    let a = c.get-in-When.result.now in
    let is : c.args.e.now.form ≡ form.When a c.in-When.field-1 c.in-When.field-2 = cc in
    IfOk-weaker c.type_of-in-When.result (IsTypeOf w a) (IsTypeOf w c.args.e.now) (λ u h. type-When w c.args.e.now a c.in-When.field-1 c.in-When.field-2 u is h) c.type_of-in-When.ensures

pub returns-in_ok-held-in-Const : goal.returns-in_ok-held-in-Const
returns-in_ok-held-in-Const t c = type-Const (judging_in c.args.scene.now) c.args.e.now c.in-Const.value _ c.in-Const.is c.in_ok-held-in-Const.ensures

pub returns-in_ok-held-in-AsyncConst : goal.returns-in_ok-held-in-AsyncConst
returns-in_ok-held-in-AsyncConst t c = type-AsyncConst (judging_in c.args.scene.now) c.args.e.now c.in-AsyncConst.value _ c.in-AsyncConst.is c.in_ok-held-in-AsyncConst.ensures

pub returns-in_ok-output-in-AsyncCall : goal.returns-in_ok-output-in-AsyncCall
returns-in_ok-output-in-AsyncCall t c =
    let w = judging_in c.args.scene.now in
    subst (IsTypeOf w c.args.e.now) (sym c.future_of.ensures) (type-AsyncCall w c.args.e.now c.in-AsyncCall.field-0 c.in-AsyncCall.name c.in-AsyncCall.field-2 _ c.in-AsyncCall.is c.in_ok-output-in-AsyncCall.ensures)

pub returns-in_ok-future-in-Get : goal.returns-in_ok-future-in-Get
returns-in_ok-future-in-Get t c =
    let w = judging_in c.args.scene.now in
    let a = c.get-in-Get.result.now in
    let is : c.args.e.now.form ≡ form.Get a = cc in
    subst (IsTypeOf w c.args.e.now) (sym c.plain_of.ensures) (type-Get w c.args.e.now a _ is c.in_ok-future-in-Get.ensures)

none_there : (bs : List MergeBranch) → length bs < 1 → bs ≡ []
none_there [] h = refl
none_there (b ∷ bs) h = absurd (omega arith)

pub returns-in-empty : goal.returns-in-empty
returns-in-empty t c =
    let none : c.in-Merge.branches ≡ [] = none_there c.in-Merge.branches (subst (λ (x : List MergeBranch). length x < 1) c.as_slice.ensures c.in-empty.len_below) in
    type-empty (judging_in c.args.scene.now) c.args.e.now c.in-Merge.field-0 _ (c.in-Merge.is ∙ ap (form.Merge c.in-Merge.field-0) none)

first_there : (b : MergeBranch) (bs : List MergeBranch) → 1 ≤ length bs → b ≡ slice_index_or bs 0 b → (rest : List MergeBranch) × (bs ≡ b ∷ rest)
first_there b [] h same = absurd (omega arith)
first_there b (x ∷ xs) h same = (xs, ap (λ (z : MergeBranch). z ∷ xs) (sym same))

pub returns-in-len1-up : goal.returns-in-len1-up
returns-in-len1-up t c =
    let w = judging_in c.args.scene.now in
    let b = c.branch-item.result in
    let there = first_there b c.as_slice.result.now c.in-len1-up.len_at_least c.branch-item.is in
    let is : c.args.e.now.form ≡ form.Merge c.in-Merge.field-0 (b ∷ there.0) = c.in-Merge.is ∙ ap (form.Merge c.in-Merge.field-0) (sym c.as_slice.ensures ∙ there.1) in
    IfOk-weaker c.type_of-in-len1-up.result (IsTypeOf w b.value) (IsTypeOf w c.args.e.now) (λ u h. type-Merge w c.args.e.now c.in-Merge.field-0 b there.0 u is h) c.type_of-in-len1-up.ensures
