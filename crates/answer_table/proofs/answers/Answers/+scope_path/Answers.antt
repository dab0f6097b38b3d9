use Rattle.std.proofs.Common.{◌≡◌, ◌+◌, List, [], ◌∷◌, ◌++◌, length, subst}
use Rattle.std.proofs.lemmas.Result.{IfOk-weaker}
use Rattle.answer_table.specs.declared.paths.Step.{Step}
use Rattle.answer_table.proofs.ScopePaths.{operand_path, right_path, on_path, every_path, strong_path}
use Rattle.answer_table.proofs.answers.Answers.+scope_path.Goals as goal

-- a path whose last step is this one
split_as : (path before : List Step) (x y : Step) → x ≡ y → (path ≡ before ++ x ∷ []) × (length before + 1 ≡ length path) → (path ≡ before ++ y ∷ []) × (length before + 1 ≡ length path)
split_as path before x y same h = subst (λ (z : Step). (path ≡ before ++ z ∷ []) × (length before + 1 ≡ length path)) same h

pub returns-in-Operand : goal.returns-in-Operand
returns-in-Operand t c =
    let before = c.in-Some.before.now in
    IfOk-weaker c.scope_path.result _ _ (λ scope h. operand_path c.args.self.now c.args.path.now before c.in-Operand.operand scope.items (split_as c.args.path.now before _ _ c.in-Operand.is c.in-Some.ensures.cases) h) c.scope_path.ensures

pub returns-in-Right : goal.returns-in-Right
returns-in-Right t c =
    let before = c.in-Some.before.now in
    IfOk-weaker c.copy.result _ _ (λ scope h. right_path c.args.self.now c.args.path.now before c.in-Right.equation c.in-Right.name scope.items (split_as c.args.path.now before _ _ c.in-Right.is c.in-Some.ensures.cases) h) c.copy.ensures

pub returns-in-On : goal.returns-in-On
returns-in-On t c =
    let before = c.in-Some.before.now in
    IfOk-weaker c.copy-in-On.result _ _ (λ scope h. on_path c.args.self.now c.args.path.now before c.in-On.equation scope.items (split_as c.args.path.now before _ _ c.in-On.is c.in-Some.ensures.cases) h) c.copy-in-On.ensures

pub returns-in-Every : goal.returns-in-Every
returns-in-Every t c =
    let before = c.in-Some.before.now in
    IfOk-weaker c.copy-in-Every.result _ _ (λ scope h. every_path c.args.self.now c.args.path.now before c.in-Every.equation scope.items (split_as c.args.path.now before _ _ c.in-Every.is c.in-Some.ensures.cases) h) c.copy-in-Every.ensures

pub returns-in-Strong : goal.returns-in-Strong
returns-in-Strong t c =
    let before = c.in-Some.before.now in
    IfOk-weaker c.copy-in-Strong.result _ _
    (λ scope h. strong_path c.args.self.now c.args.path.now before c.in-Strong.equation c.in-Strong.state c.in-Strong.escape scope.items (split_as c.args.path.now before _ _ c.in-Strong.is c.in-Some.ensures.cases) h) c.copy-in-Strong.ensures
