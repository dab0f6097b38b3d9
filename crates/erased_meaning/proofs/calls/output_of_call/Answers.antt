use Rattle.std.proofs.Common.{◌≡◌, List, Some, slice_get, refl, subst}
use Rattle.std.proofs.lemmas.Result.{IfOk-weaker}
use Rattle.std.proofs.lemmas.Option.{slice_get_read}
use Rattle.hept_ast.specs.declared.tree.Decl.{Decl}
use Rattle.answer_table.specs.declared.paths.Step.{Step}
use Rattle.answer_table.specs.declared.paths.View.{View}
use Rattle.answer_table.specs.declared.paths.View.TheVariants as seen
use Rattle.answer_table.specs.Things.{Shows}
use Rattle.answer_table.specs.Tables.{thing_in}
use Rattle.erased_meaning.proofs.CallsOf.{call_gives_output, name_at}
use Rattle.erased_meaning.proofs.calls.output_of_call.Goals as goal

pub returns-in-Some : goal.returns-in-Some
returns-in-Some c =
    let s = c.args.answers.now in
    let node = c.in-Some-Scope.node in
    let scope : View = seen.Scope c.in-Some-Scope.field-0-0 node c.in-Some-Scope.field-0-2 in
    let shows : Shows (thing_in s c.in-Ok.body.items) scope =
    subst (λ (p : List Step). Shows (thing_in s p) scope) c.as_slice.ensures.value
    (subst (λ (v : View). Shows (thing_in s c.as_slice.result.now) v) c.in-Some-Scope.field-0-is c.in-Some-Scope.ensures) in
    let found = c.in-Some.ensures.lookup in
    let at : slice_get node.now.outputs c.args.output ≡ Some c.in-Some.declared.now =
    subst (λ (ds : List Decl). slice_get ds c.args.output ≡ Some c.in-Some.declared.now) c.as_slice-2.ensures (slice_get_read c.as_slice-2.result.now _ c.args.output c.in-Some.declared.now refl found.3.0 found.1) in
    IfOk-weaker c.ask.result _ _
    (λ r h. call_gives_output s c.args.path.now c.in-Ok.body.items c.args.t c.args.output c.in-Some-Scope.field-0-0 node c.in-Some-Scope.field-0-2 _ r c.in_ok-earlier_calls.ensures c.in-Ok.ensures shows
    (name_at node.now.outputs c.args.output c.in-Some.declared.now at) h) c.ask.ensures
