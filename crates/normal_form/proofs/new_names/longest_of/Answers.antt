use Rattle.std.proofs.Common.{◌≤◌, length, arith}
use Rattle.hept_ast.specs.Texts.{Name}
use Rattle.normal_form.proofs.NewNames.{all_seen, name_grown}
use Rattle.normal_form.proofs.new_names.longest_of.Goals as goal

pub loop-name-preserved : goal.loop-name-preserved
loop-name-preserved c =
    let le : c.loop-name.longest ≤ c.max-longest.result = omega arith in
    let at_most : length c.bytes.result.now ≤ c.max-longest.result = omega arith in
    record {
      kept = omega arith;
      within = name_grown (λ (x : Name). x) c.args.names.now c.loop-name.name-index c.name-item.result c.loop-name.longest c.max-longest.result c.bytes.result.now
          c.loop-name-test.true le c.loop-name.invariant.within c.name-item.is c.bytes.ensures at_most;
    }

pub returns-clause-within : goal.returns-clause-within
returns-clause-within c =
    let le : length c.args.names.now ≤ c.loop-name.name-index = omega arith in
    all_seen (λ (x : Name). length x ≤ c.loop-name.longest) c.args.names.now c.loop-name.name-index le c.loop-name.invariant.within
