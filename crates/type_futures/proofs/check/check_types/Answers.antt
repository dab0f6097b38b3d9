use Rattle.std.proofs.Common.{ap, sym, ◌∙◌}
use Rattle.std.specs.Option.{option_map}
use Rattle.hept_ast.specs.Faults.{faults}
use Rattle.hept_ast.specs.Limits.{all_faults, earliest, limits}
use Rattle.type_futures.specs.Checked.{answered}
use Rattle.earliest_fault.specs.Noted.{fault_of}
use Rattle.type_futures.proofs.Checking.{first_part, none_found, one_found, said, said_first}
use Rattle.type_futures.proofs.check.check_types.Goals as goal

pub of-requires : goal.of-requires
of-requires c = first_part (faults c.args.program) (limits c.args.program) (none_found (all_faults c.args.program) _ c.in-Ok-None.ensures (ap (option_map fault_of) c.in-Ok-None.field-0-is))

pub returns-in-Ok-None-clause-clean : goal.returns-in-Ok-None-clause-clean
returns-in-Ok-None-clause-clean c = none_found (all_faults c.args.program) _ c.in-Ok-None.ensures (ap (option_map fault_of) c.in-Ok-None.field-0-is)

pub returns-in-Ok-Some-clause-refused : goal.returns-in-Ok-Some-clause-refused
returns-in-Ok-Some-clause-refused c =
    said (answered c.answer.result) (all_faults c.args.program) (fault_of c.in-Ok-Some.fault) c.answer.ensures
    (one_found (all_faults c.args.program) _ (fault_of c.in-Ok-Some.fault) c.in-Ok-Some.ensures (ap (option_map fault_of) c.in-Ok-Some.field-0-is))

pub returns-in-Ok-None-clause-faults : goal.returns-in-Ok-None-clause-faults
returns-in-Ok-None-clause-faults c = sym (ap (option_map fault_of) c.in-Ok-None.field-0-is) ∙ c.in-Ok-None.ensures

pub returns-in-Ok-Some-clause-faults : goal.returns-in-Ok-Some-clause-faults
returns-in-Ok-Some-clause-faults c =
    said_first (answered c.answer.result) (earliest (all_faults c.args.program)) (fault_of c.in-Ok-Some.fault) c.answer.ensures
    (sym c.in-Ok-Some.ensures ∙ ap (option_map fault_of) c.in-Ok-Some.field-0-is)
