-- Accepted programs have outputs.
use Rattle.std.proofs.Common.{length, ◌<◌, ℕ, List}
use Rattle.hept_ast.specs.Outputs.{Outputs}
use Rattle.hept_ast.specs.TypedValues.{RowsFit}
use Rattle.accepted_meaning.specs.Running.{Run, IsSoundRun, ExpressionsFit, VariablesFit, StatesFit, AbsentIsNotPresent, DefinedIsNotNil, setting_of, text_run, types_in}
use Rattle.accepted_meaning.specs.Laws.{AcceptedHasOutputs, run_of}
use Rattle.accepted_meaning.proofs.StaticNodes.{accepted_is_sound}
use Rattle.accepted_meaning.proofs.FitsKept.{Texts as Fits_texts}
use Rattle.accepted_meaning.proofs.FitsMoves.{present_moves}
use Rattle.accepted_meaning.proofs.Fits.{known_fits}
use Rattle.accepted_meaning.proofs.FitsTexts.{parts_of_scope, block_of_scope, sound_define, sound_switch, sound_reset, sound_automaton, sound_weak, sound_strong, branch_outside, body_outside, state_outside, clock_of_seen, clock_in_text, clock_here}
use Rattle.accepted_meaning.proofs.FitsInterfaces.{input_of, output_of, argument_of, call_of_node, async_call_of_node, caller_of}
use Rattle.accepted_meaning.proofs.TextApart.{not_local_in_branch, not_local_in_body, not_local_in_state, sees_in_branch, sees_in_body, sees_in_state}
use Rattle.accepted_meaning.proofs.StaticHomes.{seen_from_home, home_of, source_of, rule_of_defined}
use Rattle.accepted_meaning.proofs.StaticEnds.{reads_end}
use Rattle.accepted_meaning.proofs.StaticCalls.{node_of_name, calls_end}
use Rattle.accepted_meaning.proofs.StaticValues.{constant_fits, branch_of_value, merge_of_value, state_of_name}
use Rattle.sound_expressions.proofs.Values.{input_is_there}
use Rattle.accepted_meaning.proofs.KnownReads.{reads_right, reads_on, reads_every, reads_strong, reads_around_of, reads_clock, grade_of_right, defines_is}
use Rattle.accepted_meaning.proofs.KnownScopes.{Texts, Everything}
use Rattle.accepted_meaning.proofs.KnownAll.{everything_known}
use Rattle.accepted_meaning.proofs.KnownOutputs.{AllFit, outputs_known}

pub texts_of : (r : Run) → IsSoundRun r → Texts r
texts_of r sound = record {
  sound = sound;
  seen_from_home = seen_from_home r;
  block_of_scope = block_of_scope r;
  sound_define = sound_define r;
  sound_switch = sound_switch r;
  sound_reset = sound_reset r;
  sound_automaton = sound_automaton r;
  sound_weak = sound_weak r;
  sound_strong = sound_strong r;
  branch_outside = branch_outside r;
  body_outside = body_outside r;
  state_outside = state_outside r;
  clock_of_seen = clock_of_seen;
  clock_in_text = clock_in_text r;
  clock_here = clock_here r;
  home_of = home_of r;
  source_of = source_of r;
  rule_of_defined = rule_of_defined r;
  defines_is = defines_is r (not_local_in_branch r) (not_local_in_body r) (not_local_in_state r);
  not_local_in_branch = not_local_in_branch r;
  not_local_in_body = not_local_in_body r;
  not_local_in_state = not_local_in_state r;
  sees_in_branch = sees_in_branch r;
  sees_in_body = sees_in_body r;
  sees_in_state = sees_in_state r;
  reads_right = reads_right r (parts_of_scope r);
  reads_on = reads_on r (parts_of_scope r);
  reads_every = reads_every r (parts_of_scope r);
  reads_strong = reads_strong r (parts_of_scope r);
  reads_around = reads_around_of r (parts_of_scope r);
  reads_clock = reads_clock;
  reads_end = reads_end r;
  calls_end = calls_end r sound;
  call_of = call_of_node r sound (node_of_name r sound);
  async_call_of = async_call_of_node r sound (node_of_name r sound);
  argument_of = argument_of r;
  input_of = input_of r;
  output_of = output_of r;
  branch_of_value = branch_of_value r.program sound.sound;
  merge_of_value = merge_of_value r.program sound.sound;
  input_at = input_is_there;
}

pub fits_texts_of : (r : Run) → IsSoundRun r → Fits_texts r
fits_texts_of r sound = record {
  sound = sound;
  moves = present_moves r sound (texts_of r sound);
  define = sound_define r;
  switch = sound_switch r;
  reset = sound_reset r;
  automaton = sound_automaton r;
  weak = sound_weak r;
  strong = sound_strong r;
  block = block_of_scope r;
  branch_outside = branch_outside r;
  body_outside = body_outside r;
  state_outside = state_outside r;
  clock_of_seen = clock_of_seen;
  clock_in_text = clock_in_text r;
  clock_here = clock_here r;
  seen_from_home = seen_from_home r;
  home_of = home_of r;
  defines = defines_is r (not_local_in_branch r) (not_local_in_body r) (not_local_in_state r);
  not_local_in_branch = not_local_in_branch r;
  not_local_in_body = not_local_in_body r;
  not_local_in_state = not_local_in_state r;
  sees_in_branch = sees_in_branch r;
  sees_in_body = sees_in_body r;
  sees_in_state = sees_in_state r;
  grade_of_right = grade_of_right r (parts_of_scope r);
  call = call_of_node r sound (node_of_name r sound);
  async_call = async_call_of_node r sound (node_of_name r sound);
  caller = caller_of r sound (node_of_name r sound);
  argument = argument_of r;
  input = input_of r;
  output = output_of r;
  constant = constant_fits r.program sound.sound;
  state_of_name = state_of_name;
  input_at = input_is_there;
}

fits_of : (r : Run) → ExpressionsFit r × VariablesFit r × StatesFit r × AbsentIsNotPresent r × DefinedIsNotNil r → AllFit r
fits_of r h = record { fits = record { expressions = h.0; variables = h.1; states = h.2 }; absent = h.3; defined = h.4 }

-- rows of outputs, each a value of its type
abbrev pub HasOutputs : Run → Type 0
HasOutputs r = (outs : List (List ℕ)) × Outputs (setting_of r) (text_run r) r.rows outs × RowsFit (types_in r) r.node.outputs outs

pub everything_at : (r : Run) → IsSoundRun r → (t : ℕ) → t < length r.rows → Everything r t
everything_at r sound t less = everything_known r sound (texts_of r sound) (fits_of r (known_fits r (fits_texts_of r sound))).fits t less

pub sound_run_has_outputs : (r : Run) → IsSoundRun r → HasOutputs r
sound_run_has_outputs r sound = outputs_known r sound (texts_of r sound) (fits_of r (known_fits r (fits_texts_of r sound)))

pub accepted_has_outputs : AcceptedHasOutputs
accepted_has_outputs c k node marked replies rows range accepted chosen replies_fit rows_fit =
    sound_run_has_outputs (run_of c k node marked replies rows)
    (record { sound = accepted_is_sound c range accepted; chosen = chosen; replies_fit = replies_fit; rows_fit = rows_fit })
