use Rattle.std.proofs.Common.{ℕ, List, ◌<◌, ◌≤◌, length, refl, arith}
use Rattle.std.proofs.lemmas.Bool.Decides.{nat_tests}
use Rattle.hept_ast.proofs.Earliest.{earliest-cons, earliest-nil, earlier_of-none}
use Rattle.text_limits.proofs.Overs.{over_here, over_past}
use Rattle.text_limits.proofs.limits.note_over_names.Goals as goal

pub returns-in-Some : goal.returns-in-Some
returns-in-Some c =
    let h : c.args.limit < length c.args.names.now = grind (arith, nat_tests, c.in-Some.ensures.lookup.0) in
    rw (over_here (λ (k : List ℕ). c.args.place.0) c.args.limit c.args.names.now c.in-Some.field-0.now h c.in-Some.ensures.lookup.1, earliest-cons, earliest-nil) c.note.ensures

pub returns-in_default : goal.returns-in_default
returns-in_default c =
    let h : length c.args.names.now ≤ c.args.limit = grind (arith, nat_tests, c.in_default.ensures.lookup.0) in
    rw (over_past (λ (k : List ℕ). c.args.place.0) c.args.limit c.args.names.now h, earliest-nil, earlier_of-none) refl
