use Rattle.std.proofs.Common.{suc, ◌+◌, ◌≡◌, ◌≤◌, ◌∙◌, ap, length, map, sym, arith}
use Rattle.call_graph.specs.Graph.{marks_after, next_marks, row_in}
use Rattle.call_graph.proofs.Graphs.{no_round, one_round, stays}
use Rattle.call_graph.proofs.graph.all_marks.Goals as goal

pub loop-round-init : goal.loop-round-init
loop-round-init c = c.in_ok-marks.ensures ∙ no_round (map row_in c.args.rows.now) c.args.to.now

pub loop-round-preserved : goal.loop-round-preserved
loop-round-preserved c =
    let rows = map row_in c.args.rows.now in
    let to = c.args.to.now in
    let next : suc c.loop-round._round ≡ c.loop-round._round + 1 = omega arith in
    c.in_ok-next.ensures ∙ (ap (next_marks rows to) (c.as_slice.ensures.value ∙ c.loop-round.invariant) ∙ (one_round rows to c.loop-round._round ∙ ap (marks_after rows to) next))

pub returns-then-are_equal : goal.returns-then-are_equal
returns-then-are_equal c =
    let rows = map row_in c.args.rows.now in
    let to = c.args.to.now in
    let within : c.loop-round._round ≤ length c.args.rows.now = omega arith in
    let still = sym (ap (next_marks rows to) (c.as_slice.ensures.value ∙ c.loop-round.invariant))
    ∙ (sym c.in_ok-next.ensures ∙ (sym c.as_slice-in-loop-round-2.ensures.value ∙ (sym (c.are_equal.ensures.0 c.if-are_equal.true) ∙ (c.as_slice-in-loop-round.ensures.value ∙ c.loop-round.invariant)))) in
    c.loop-round.invariant ∙ sym (stays rows to c.loop-round._round (length c.args.rows.now) within still)

pub returns : goal.returns
returns c =
    let all : c.loop-round._round ≡ length c.args.rows.now = omega arith in
    c.loop-round.invariant ∙ ap (marks_after (map row_in c.args.rows.now) c.args.to.now) all
