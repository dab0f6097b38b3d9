use Rattle.std.proofs.Common.{◌≡◌, [], map, take}
use Rattle.std.specs.List.{flat_map}
use Rattle.std.specs.Option.{option_map}
use Rattle.hept_ast.specs.Faults.{judge_expr}
use Rattle.hept_ast.specs.Limits.{earlier_of, earliest}
use Rattle.hept_ast.specs.Types.{alike}
use Rattle.expression_types.specs.Fits.{fit_of, given}
use Rattle.expression_types.specs.Judgings.{each_branch, faults_found, takes_first, types_given}
use Rattle.expression_types.specs.Scene.{judging_of}
use Rattle.declared_types.specs.Types.{type_in}
use Rattle.expression_types.proofs.judge.+judging.Given as goal

abbrev pub invariant-judge_args-loop-index : goal.invariant-judge_args-loop-index
invariant-judge_args-loop-index l =
    let js = map (judge_expr (judging_of l.scene)) (take l.index l.args) in
    record {
      noted : l.found ≡ earlier_of l.initial.found (earliest (flat_map faults_found js));
      taken : l.taken ≡ option_map (takes_first l.inputs) (given (map types_given js));
    }

abbrev pub invariant-judge_branches-loop-index : goal.invariant-judge_branches-loop-index
invariant-judge_branches-loop-index l =
    let js = each_branch (judging_of l.scene) (option_map type_in l.on) [] (take l.index l.branches) in
    record {
      noted : l.found ≡ earlier_of l.initial.found (earliest (flat_map faults_found js));
      alike : option_map fit_of l.alike ≡ option_map alike (given (map types_given js));
    }
