-- An expression without faults, whose conditions of clocks and demands are met, is sound.
use Rattle.std.specs.Prelude.{◌≡◌, ℕ, Bool, List, [], All, Some}
use Rattle.hept_ast.specs.Scopes.{Clock}
use Rattle.hept_ast.specs.Parts.{Surroundings, inside}
use Rattle.hept_ast.specs.Clocks.{Meets, clock, expression, own_names, term_of}
use Rattle.hept_ast.specs.Faults.{judge_expr}
use Rattle.hept_ast.specs.declared.tree.Node.{Node}
use Rattle.hept_ast.specs.declared.tree.Expr.{Expr}
use Rattle.hept_ast.specs.declared.tree.Ty.{Ty}
use Rattle.sound_expressions.specs.Sound.{Sound, Within}
use Rattle.sound_expressions.specs.Demands.{Demanded, assigned, judging_at}

-- judged as an expression of any node with its node's name: a node of a core is judged by less than it has
abbrev pub JudgedIsSound : Type 0
JudgedIsSound = (k : Within) (site : Surroundings) (strong : Bool) (judged : Node) → judged.name ≡ k.node.name → (numbers : ℕ → Clock) (n : ℕ) (e : Expr) →
    (judge_expr (judging_at k site strong judged) e).faults ≡ [] →
    Meets (assigned k numbers) (expression (own_names k.node site) n e.place.0 e.form) →
    All (Demanded k site) (inside e) →
    (ts : List Ty) × ((judge_expr (judging_at k site strong judged) e).types ≡ Some ts) × Sound k site e (clock (assigned k numbers) (term_of (own_names k.node site) n e.form)) ts
