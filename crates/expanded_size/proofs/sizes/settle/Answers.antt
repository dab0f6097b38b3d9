use Rattle.std.proofs.Common.{◌<◌, ◌∙◌, length, subst, sym, List, Option, ℕ}
use Rattle.std.proofs.lemmas.List.{length-set}
use Rattle.expanded_size.specs.Tables.{IsNext, callee_lists}
use Rattle.expanded_size.proofs.Tables.{fewer, step}
use Rattle.expanded_size.proofs.sizes.settle.Goals as goal

pub loop-place-smaller : goal.loop-place-smaller
loop-place-smaller c =
    let sizes = c.loop-place.sizes.items in
    let found = c.in-Some.ensures {u = tt} in
    let within : c.in-Some.place < length sizes = subst (λ n. c.in-Some.place < n) (sym c.loop-place.invariant.1) found.0 in
    let next = subst (λ (t : List (Option ℕ)). IsNext c.args.counts.now (callee_lists c.args.graph.now) t c.in-Some.place c.in-Some.size) c.deref.ensures.value found.1 in
    fewer sizes c.in-Some.place c.in-Some.size within next.open_one

pub loop-place-preserved : goal.loop-place-preserved
loop-place-preserved c =
    let sizes = c.loop-place.sizes.items in
    let found = c.in-Some.ensures {u = tt} in
    let within : c.in-Some.place < length sizes = subst (λ n. c.in-Some.place < n) (sym c.loop-place.invariant.1) found.0 in
    let next = subst (λ (t : List (Option ℕ)). IsNext c.args.counts.now (callee_lists c.args.graph.now) t c.in-Some.place c.in-Some.size) c.deref.ensures.value found.1 in
    (step c.args.counts.now (callee_lists c.args.graph.now) sizes c.in-Some.place c.in-Some.size c.loop-place.invariant.0 within next, length-set sizes c.in-Some.place _ ∙ c.loop-place.invariant.1)
