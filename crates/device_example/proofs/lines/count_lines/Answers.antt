use Rattle.std.proofs.Common.{◌≡◌, ◌++◌, ◌∷◌, [], None, Some, List, ℕ, Option, IfSome, length, ap, ◌∙◌, arith, length-append}
use Rattle.hept_io.specs.Lines.{lines_of}
use Rattle.device_example.proofs.lines.count_lines.Goals as goal

count : (all : Option (List ℕ)) (lines : List (List ℕ)) (n : ℕ) → IfSome all (λ bytes. lines_of bytes ≡ lines) → length lines ≡ n → IfSome all (λ bytes. length (lines_of bytes) ≡ n)
count None lines n are long = tt
count (Some bytes) lines n are long = ap length are ∙ long

pub returns-in-None : goal.returns-in-None
returns-in-None g c =
    let ends = rw (c.in_ok-next.was, c.in-None.is) at c.next.follows.holds-at-none in
    let given = c.loop.invariant.given in
    count _ given.0 _ (c.line_laws.ensures.all_given _ _ given.0 given.2 ends.none_to_come) given.1

pub loop-preserved : goal.loop-preserved
loop-preserved g c =
    let gives = rw (c.in_ok-next.was, c.in-Some.is) at c.next.follows.holds-at-none in
    let given = c.loop.invariant.given in
    let line = c.in-Some.field-0.now in
    record {
      goes_on = gives.goes_on;
      fits = omega arith;
      given = (given.0 ++ line ∷ [], omega (arith, length-append given.0 (line ∷ [])), c.line_laws.ensures.one_more_given _ _ _ given.0 line given.2 gives.loses);
    }
