use Rattle.std.proofs.Common.{◌<◌, length, string_bytes}
use Rattle.std.specs.Prelude.{IsTrue}
use Rattle.core_naming.specs.Names.{has_mark}
use Rattle.normal_form.proofs.new_names.longer_mark.Given as goal

abbrev pub invariant-loop : goal.invariant-loop
invariant-loop l = record {
  longer : l.counter < length (string_bytes l.mark);
  marked : IsTrue (has_mark (string_bytes l.mark));
}
