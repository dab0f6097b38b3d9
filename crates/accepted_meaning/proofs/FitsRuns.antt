-- What is known of a sound run fits.
use Rattle.accepted_meaning.specs.Running.{Run, IsSoundRun, ExpressionsFit, VariablesFit, StatesFit, AbsentIsNotPresent, DefinedIsNotNil}
use Rattle.accepted_meaning.proofs.StaticCalls.{node_of_name}
use Rattle.accepted_meaning.proofs.StaticHomes.{seen_from_home, home_of}
use Rattle.accepted_meaning.proofs.StaticValues.{constant_fits, state_of_name}
use Rattle.sound_expressions.proofs.Values.{input_is_there}
use Rattle.accepted_meaning.proofs.TextApart.{not_local_in_branch, not_local_in_body, not_local_in_state, sees_in_branch, sees_in_body, sees_in_state}
use Rattle.accepted_meaning.proofs.KnownReads.{defines_is, grade_of_right}
use Rattle.accepted_meaning.proofs.FitsTexts.{parts_of_scope, block_of_scope, sound_define, sound_switch, sound_reset, sound_automaton, sound_weak, sound_strong, branch_outside, body_outside, state_outside, clock_of_seen, clock_in_text, clock_here}
use Rattle.accepted_meaning.proofs.FitsInterfaces.{input_of, output_of, argument_of, call_of_node, async_call_of_node, caller_of}
use Rattle.accepted_meaning.proofs.FitsKept.{Texts, PresentMoves}
use Rattle.accepted_meaning.proofs.Fits.{known_fits}

-- what is known of the texts and scopes of a sound run
pub texts_of : (r : Run) → IsSoundRun r → PresentMoves r → Texts r
texts_of r run moves = record {
  sound = run;
  moves = moves;
  define = sound_define r;
  switch = sound_switch r;
  reset = sound_reset r;
  automaton = sound_automaton r;
  weak = sound_weak r;
  strong = sound_strong r;
  block = block_of_scope r;
  branch_outside = branch_outside r;
  body_outside = body_outside r;
  state_outside = state_outside r;
  clock_of_seen = clock_of_seen;
  clock_in_text = clock_in_text r;
  clock_here = clock_here r;
  seen_from_home = seen_from_home r;
  home_of = home_of r;
  defines = defines_is r (not_local_in_branch r) (not_local_in_body r) (not_local_in_state r);
  not_local_in_branch = not_local_in_branch r;
  not_local_in_body = not_local_in_body r;
  not_local_in_state = not_local_in_state r;
  sees_in_branch = sees_in_branch r;
  sees_in_body = sees_in_body r;
  sees_in_state = sees_in_state r;
  grade_of_right = grade_of_right r (parts_of_scope r);
  call = call_of_node r run (node_of_name r run);
  async_call = async_call_of_node r run (node_of_name r run);
  caller = caller_of r run (node_of_name r run);
  argument = argument_of r;
  input = input_of r;
  output = output_of r;
  constant = constant_fits r.program run.sound;
  state_of_name = state_of_name;
  input_at = input_is_there;
}

pub fits_of : (r : Run) → IsSoundRun r → PresentMoves r → ExpressionsFit r × VariablesFit r × StatesFit r × AbsentIsNotPresent r × DefinedIsNotNil r
fits_of r run moves = known_fits r (texts_of r run moves)
