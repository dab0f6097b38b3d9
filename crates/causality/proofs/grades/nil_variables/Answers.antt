use Rattle.std.proofs.Common.{◌≡◌, ◌≤◌, ℕ, List, arith, length, map, sym, ◌∙◌, ap, subst}
use Rattle.std.proofs.lemmas.Grind.{common_steps}
use Rattle.std.proofs.lemmas.List.{length-map}
use Rattle.causality.specs.Flows.{flow_of}
use Rattle.causality.specs.Rounds.{IsRound, next_nil}
use Rattle.causality.proofs.Rounds.{no_round, next_round, round_longer, round_within, round_ends}
use Rattle.causality.proofs.grades.nil_variables.Goals as goal

pub loop-nil-init : goal.loop-nil-init
loop-nil-init c = rw (c.new-nil.ensures.items) (no_round _)

pub returns-then-len : goal.returns-then-len
returns-then-len c =
    let flows = map flow_of c.args.flows.now in
    let nil : List (List ℕ) = map (λ r. r.now) c.loop-nil.nil.items in
    let is : map (λ r. r.now) c.in_ok-next.next.items ≡ next_nil flows nil = c.in_ok-next.ensures ∙ ap (λ v. next_nil flows (map (λ r. r.now) v)) c.as_slice.ensures.value in
    round_ends flows nil c.loop-nil.invariant (ap length (sym is) ∙ grind (arith, common_steps, c.if-len.true, c.len.ensures, c.len-in-loop-nil.ensures))

pub loop-nil-smaller : goal.loop-nil-smaller
loop-nil-smaller c =
    let flows = map flow_of c.args.flows.now in
    let nil : List (List ℕ) = map (λ r. r.now) c.loop-nil.nil.items in
    let is : map (λ r. r.now) c.in_ok-next.next.items ≡ next_nil flows nil = c.in_ok-next.ensures ∙ ap (λ v. next_nil flows (map (λ r. r.now) v)) c.as_slice.ensures.value in
    let up : length nil ≤ length (next_nil flows nil) = round_longer flows nil c.loop-nil.invariant in
    let top = round_within flows nil in
    let long : length c.in_ok-next.next.items ≡ length (next_nil flows nil) = sym (length-map _ _) ∙ ap length is in
    let short : length c.loop-nil.nil.items ≡ length nil = sym (length-map _ _) in
    omega (arith, c.if-len.false, c.len.ensures, c.len-in-loop-nil.ensures)

pub loop-nil-preserved : goal.loop-nil-preserved
loop-nil-preserved c =
    let flows = map flow_of c.args.flows.now in
    subst (IsRound flows) (sym (c.in_ok-next.ensures ∙ ap (λ v. next_nil flows (map (λ r. r.now) v)) c.as_slice.ensures.value)) (next_round flows _ c.loop-nil.invariant)
