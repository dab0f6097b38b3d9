use Rattle.std.proofs.Common.{◌≤◌, ℕ, length, arith}
use Rattle.hept_ast.specs.declared.tree.TypeDec.{TypeDec}
use Rattle.normal_form.specs.NewNames.{AreWithin, type_names}
use Rattle.normal_form.proofs.NewNames.{all_seen, grown, within_more, within_type}
use Rattle.normal_form.proofs.new_names.longest_in_types.Goals as goal

pub loop-declared-preserved : goal.loop-declared-preserved
loop-declared-preserved c =
    let kept : c.max-name.result ≤ c.longest_of-longest.result = c.longest_of-longest.ensures.kept in
    let le : c.loop-declared.longest ≤ c.longest_of-longest.result = omega arith in
    let own : length c.bytes.result.now ≤ c.longest_of-longest.result = omega arith in
    record {
      kept = omega arith;
      within = grown (λ (n : ℕ) (d : TypeDec). AreWithin n (type_names d)) (λ m n d less h. within_more m n (type_names d) less h) c.args.types.now c.loop-declared.declared-index c.declared-item.result
          c.loop-declared.longest c.longest_of-longest.result c.loop-declared-test.true le c.loop-declared.invariant.within c.declared-item.is
          (within_type c.declared-item.result c.longest_of-longest.result c.bytes.result.now c.as_slice.result.now c.bytes.ensures c.as_slice.ensures own c.longest_of-longest.ensures.within);
    }

pub returns-clause-within : goal.returns-clause-within
returns-clause-within c =
    let le : length c.args.types.now ≤ c.loop-declared.declared-index = omega arith in
    all_seen (λ (d : TypeDec). AreWithin c.loop-declared.longest (type_names d)) c.args.types.now c.loop-declared.declared-index le c.loop-declared.invariant.within
