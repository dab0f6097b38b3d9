use Rattle.std.proofs.Common.{◌<◌, ◌≤◌, length, refl, arith}
use Rattle.std.proofs.lemmas.Bool.Decides.{nat_tests}
use Rattle.hept_ast.proofs.Earliest.{earliest-cons, earliest-nil, earlier_of-none}
use Rattle.hept_ast.specs.Parts.{state_case}
use Rattle.text_limits.proofs.Overs.{over_one, over_none}
use Rattle.text_limits.proofs.limits.note_over_states.Goals as goal

pub returns-in-Some : goal.returns-in-Some
returns-in-Some c =
    let h : c.args.limit < length c.args.states.now = grind (arith, nat_tests, c.in-Some.ensures.lookup.0) in
    rw (over_one (λ k. k.place) state_case c.args.limit c.args.states.now c.in-Some.state.now h c.in-Some.ensures.lookup.1, earliest-cons, earliest-nil) c.note.ensures

pub returns-in_default : goal.returns-in_default
returns-in_default c =
    let h : length c.args.states.now ≤ c.args.limit = grind (arith, nat_tests, c.in_default.ensures.lookup.0) in
    rw (over_none (λ k. k.place) state_case c.args.limit c.args.states.now h, earliest-nil, earlier_of-none) refl
