use Rattle.std.specs.Option.{option_map}
use Rattle.expression_types.specs.Judgings.{nested_fault}
use Rattle.expression_types.specs.Scene.{judging_of}
use Rattle.expression_types.proofs.Arguments.{call-found}
use Rattle.expression_types.proofs.calls.note_call.Goals as goal

pub returns-then-wrong-clause-noted : goal.returns-then-wrong-clause-noted
returns-then-wrong-clause-noted c =
    let w = judging_of c.args.scene.now in
    call-found w c.args.place.0 (option_map (λ k. k.node.now) c.args.callee) (nested_fault w c.args.place.0 c.args.is_async) _ _ _ c.note_callee-wrong.ensures.noted c.note_nested-nested.ensures.noted

pub returns-else-wrong-clause-noted : goal.returns-else-wrong-clause-noted
returns-else-wrong-clause-noted c =
    let w = judging_of c.args.scene.now in
    call-found w c.args.place.0 (option_map (λ k. k.node.now) c.args.callee) (nested_fault w c.args.place.0 c.args.is_async) _ _ _ c.note_callee-wrong.ensures.noted c.note_nested-nested.ensures.noted
