use Rattle.std.proofs.Common.{◌≡◌, ℕ, ◌+◌, ◌-◌, [], length, Some, refl, ap, ◌∙◌, arith}
use Rattle.hept_ast.specs.Scopes.{Written}
use Rattle.hept_ast.specs.declared.tree.Program.{Program}
use Rattle.node_memory.specs.Standing.{no_calls}
use Rattle.plan_equations.specs.Grounds.{ground_of}
use Rattle.program_stepper.specs.Stepping.{IsPlanFor}
use Rattle.program_stepper.proofs.Interfaces.{last_node, some_nodes}
use Rattle.program_stepper.proofs.RowByRow.{no_rows}
use Rattle.program_stepper.proofs.stepper.Stepper.new.Goals as goal

pub plan_of-requires-clause-number : goal.plan_of-requires-clause-number
plan_of-requires-clause-number c =
    let count : c.len-last.result ≡ length c.args.accepted.now.program.nodes = c.len-last.ensures ∙ ap (λ (p : Program). length p.nodes) c.program.ensures.same in
    omega (arith, count, some_nodes c.args.accepted.now.program.nodes c.requires.main)

pub returns-in_err-plan-clause-rows : goal.returns-in_err-plan-clause-rows
returns-in_err-plan-clause-rows c = no_rows c.args.accepted.now _ (last_node c.args.accepted.now.program _ c.requires.main refl).main

pub returns-in_err-memory-clause-rows : goal.returns-in_err-memory-clause-rows
returns-in_err-memory-clause-rows c = no_rows c.args.accepted.now _ (last_node c.args.accepted.now.program _ c.requires.main refl).main

pub returns-clause-rows : goal.returns-clause-rows
returns-clause-rows c = no_rows c.args.accepted.now _ (last_node c.args.accepted.now.program _ c.requires.main refl).main

pub returns-clause-stands : goal.returns-clause-stands
returns-clause-stands c =
    let p : Program = c.args.accepted.now.program in
    let number : ℕ = c.len-last.result - 1 in
    let count : c.len-last.result ≡ length p.nodes = c.len-last.ensures ∙ ap (λ (q : Program). length q.nodes) c.program.ensures.same in
    let last = last_node p number c.requires.main (ap (λ (n : ℕ). n - 1) count) in
    let here : 0 + number ≡ number = omega arith in
    let planned : IsPlanFor c.args.accepted.now number last.node c.in_ok-plan.plan = c.in_ok-plan.ensures.plan last.node last.at in
    record {
      ready = record { sound = c.in_ok-plan.ensures.sound; no_async = c.in_ok-plan.ensures.alone; memory = c.in_ok-memory.ensures.of; alone = c.in_ok-memory.ensures.named no_calls };
      accepted = record { typed = c.program.ensures.typed; clocked = c.program.ensures.clocked; initialised = c.program.ensures.initialised; causal = c.program.ensures.causal };
      range = c.requires.range;
      number = number;
      node = last.node;
      at = last.at;
      main = last.main ∙ ap (λ (n : ℕ). Some (Written n last.node)) here;
      planned = planned;
      fits = tt;
      memory = c.in_ok-memory.ensures.stands planned.core (ground_of planned.core planned.means.low) [] planned.means.low no_calls planned.is_plan (record { calls = refl });
    }
