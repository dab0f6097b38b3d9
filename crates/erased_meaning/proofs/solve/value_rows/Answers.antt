use Rattle.std.proofs.Common.{ℕ, List, [], ◌∷◌, ◌++◌, ap, arith, ◌∙◌}
use Rattle.hept_ast.specs.Stages.{IsAcceptedProgram}
use Rattle.answer_table.specs.declared.answers.Answers.{Answers}
use Rattle.erased_meaning.proofs.RowsMean.{are_outputs, erased_outputs, outputs_fit}
use Rattle.erased_meaning.proofs.RowsOf.{rows_step, same_through}
use Rattle.erased_meaning.proofs.solve.value_rows.Goals as goal

pub loop-t-preserved : goal.loop-t-preserved
loop-t-preserved c =
    let s : Answers = record { alloc = c.args.alloc; accepted = c.args.accepted; top = c.args.top.0; rows = c.args.rows; known = c.new.result } in
    record {
      sound = c.in_ok-row.ensures.sound;
      same = same_through s c.loop-t.answers c.row.new.answers c.loop-t.invariant.same c.in_ok-row.ensures.same;
      outs = rows_step s c.loop-t.answers c.index-as_slice-top.result c.loop-t.t c.loop-t.outs c.push.new.self c.in_ok-row.row.items c.loop-t.invariant.same (omega arith)
          c.in_ok-row.ensures.values (c.in_ok-push.ensures.pushed ∙ ap (λ (row : List ℕ). c.loop-t.outs ++ row ∷ []) c.as_slice-in-loop-t.ensures.value) c.loop-t.invariant.outs;
    }

pub returns : goal.returns
returns c =
    let are = are_outputs c.args.accepted.now c.as_slice.result.now c.args.top.0 c.args.rows.now c.loop-t.outs c.loop-t.t c.index-as_slice-top.result
    (c.as_slice.ensures ∙ ap (λ p. p.nodes) c.program.ensures.same) c.index-as_slice-top.is (omega arith) c.loop-t.invariant.outs in
    let accepted : IsAcceptedProgram c.args.accepted.now = record {
      typed = c.program.ensures.typed;
      clocked = c.program.ensures.clocked;
      initialised = c.program.ensures.initialised;
      causal = c.program.ensures.causal;
    } in
    record {
      outputs = are;
      erased = erased_outputs c.meaning_laws.ensures.erased c.args.accepted.now c.args.top.0 c.args.rows.now c.loop-t.outs are;
      fits = outputs_fit c.meaning_laws.ensures.one_outputs c.accepted_laws.ensures.outputs c.args.accepted.now c.args.top.0 c.args.rows.now c.loop-t.outs accepted are;
    }
