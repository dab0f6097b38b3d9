-- Which nodes lead to which by calls.
use Rattle.std.specs.Prelude.{ℕ, Bool, List, map}
use Rattle.hept_ast.specs.Faults.{lead}
use Rattle.hept_ast.specs.Texts.{Name}
use Rattle.hept_ast.specs.declared.tree.Node.{Node}

-- for each node, whether at most k calls lead from it to a node
abbrev pub leading : List Node → (k : ℕ) → Name → List Bool
leading nodes k to = map (λ n. lead nodes k n.name to) nodes
