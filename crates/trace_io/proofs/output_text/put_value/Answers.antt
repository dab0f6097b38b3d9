use Rattle.std.proofs.Common.{arith}
use Rattle.trace_io.proofs.RowLine.{name_within}
use Rattle.trace_io.proofs.output_text.put_value.Goals as goal

-- src/output_text.rt:136:13
pub put_text-requires-in-Constructors : goal.put_text-requires-in-Constructors
put_text-requires-in-Constructors c =
    let within = name_within c.args.values.now c.in-Constructors.names c.as_slice.result.now c.args.value c.index-as_slice-value.result c.bytes.result.now c.in-Constructors.is c.as_slice.ensures c.index-as_slice-value.is c.bytes.ensures c.requires.value in
    record { room = omega (arith, within) }

-- src/output_text.rt:121:1
pub returns-in-Constructors-clause-len : goal.returns-in-Constructors-clause-len
returns-in-Constructors-clause-len c =
    let within = name_within c.args.values.now c.in-Constructors.names c.as_slice.result.now c.args.value c.index-as_slice-value.result c.bytes.result.now c.in-Constructors.is c.as_slice.ensures c.index-as_slice-value.is c.bytes.ensures c.requires.value in
    omega (arith, within, c.put_text-in-Constructors.ensures.len)
