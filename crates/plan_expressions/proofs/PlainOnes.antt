-- Expressions without `when` and merges need nothing of the ground, and no presence.
use Rattle.std.proofs.Common.{◌≡◌, ℕ, List, [], refl, arith}
use Rattle.hept_ast.specs.Texts.{Name}
use Rattle.hept_ast.specs.Scopes.{Clock, Scope}
use Rattle.hept_ast.specs.declared.tree.TypeDec.{TypeDec}
use Rattle.hept_ast.specs.declared.tree.CoreNode.{CoreNode}
use Rattle.hept_ast.specs.declared.tree.Expr.{Expr}
use Rattle.step_plans.specs.Plans.{Ground, Entry}
use Rattle.plan_expressions.specs.Computable.{Computable, constant, variable, unary, binary, divided, conditional, sampled, merged, HasDivisor, divisor}
use Rattle.plan_expressions.specs.Building.{HaveRegisters}
use Rattle.plan_expressions.specs.Grounded.{Grounded}
use Rattle.plan_expressions.specs.Grounded as ground
use Rattle.plan_expressions.specs.Clocked.{Supplied}
use Rattle.plan_expressions.specs.Plain.{PlainEmits, PlainKeeps}

module _ (g : Ground) (node : CoreNode) (b s : Scope) (c : Clock) (types : List TypeDec) (ks : List Name) where
  divisor_grounded : (e : Expr) → HasDivisor types e → Grounded g node b s c e
  divisor_grounded e (divisor k is nonzero) = ground.constant k is

  plain_grounded : (n : ℕ) (e : Expr) → n ≡ 0 → Computable types ks n e → Grounded g node b s c e
  plain_grounded n e none (constant k is) = ground.constant k is
  plain_grounded n e none (variable x is among) = ground.variable x is
  plain_grounded n e none (unary op a is h) = ground.unary op a is (plain_grounded n a none h)
  plain_grounded n e none (binary op a d is other h k) = ground.binary op a d is (plain_grounded n a none h) (plain_grounded n d none k)
  plain_grounded n e none (divided op a d is divides h k) = ground.binary op a d is (plain_grounded n a none h) (divisor_grounded d k)
  plain_grounded n e none (conditional i a d is h k l) = ground.conditional i a d is (plain_grounded n i none h) (plain_grounded n a none k) (plain_grounded n d none l)
  plain_grounded n e none (sampled a tag x is several h) = absurd (omega arith)
  plain_grounded n e none (merged x branches is some among h) = absurd (omega arith)

no_node : CoreNode
no_node = record { name = []; inputs = []; outputs = []; locals = []; equations = [] }

plain_supplied : (entries : List Entry) (s : Scope) (c : Clock) (variables : List Name) (registers : List ℕ) (at : ℕ) → HaveRegisters entries s variables registers at → Supplied entries s s c variables registers [] at
plain_supplied entries s c variables registers at have = record {
  body = have;
  right = have;
  present = record {
    long = λ lt. absurd (omega arith);
    body = λ k lt. absurd (omega arith);
    right = λ k lt. absurd (omega arith);
    within = λ k lt. absurd (omega arith);
  };
}

pub plain_emits : PlainEmits
plain_emits types variables registers old new e r plain emits g c s h start before same leads here have =
    emits g no_node s s c h start before same leads here (plain_supplied before.entries s c variables registers old.at have) (plain_grounded g no_node s s c types variables 0 e refl plain)

pub plain_keeps : PlainKeeps
plain_keeps registers old new r keeps cells below all = keeps cells below (λ k d lt. absurd (omega arith)) all
