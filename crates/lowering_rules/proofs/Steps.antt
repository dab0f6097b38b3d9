-- One element more at the end of a list, and the plain equation of a node's own scope: what code that lowers goes by.
use Rattle.std.proofs.Common.{◌≡◌, ℕ, suc, ◌+◌, List, [], ◌∷◌, ◌++◌, length, map, refl, ap, subst, ◌∙◌, arith}
use Rattle.hept_ast.specs.Texts.{Name}
use Rattle.hept_ast.specs.Scopes.{Clock}
use Rattle.hept_ast.specs.declared.name.Place.{Place}
use Rattle.hept_ast.specs.declared.tree.Tag.{Tag}
use Rattle.hept_ast.specs.declared.tree.Expr.{Expr}
use Rattle.hept_ast.specs.declared.tree.MergeBranch.{MergeBranch}
use Rattle.hept_ast.specs.declared.tree.Equation.{Equation}
use Rattle.hept_ast.specs.declared.tree.Equation.TheVariants as equation
use Rattle.hept_ast.specs.declared.tree.Node.{Node}
use Rattle.hept_ast.specs.declared.tree.CoreNode.{CoreNode}
use Rattle.hept_ast.specs.declared.tree.CoreEquation.{CoreEquation}
use Rattle.lowering_rules.specs.Lowering.{Frame, node_frame, branch, renamed_step, clock_of_left, Lowers, LowersAll, no_exprs, more_exprs, LowersBranches, no_branches, more_branches, LowersEquation, define, LowersEquations, no_equations, more_equations, LowersNode, LowersNodes, no_nodes, more_nodes}
use Rattle.lowering_rules.specs.Ties.{core_equation}

-- ---- the frame of a node changes nothing

pub same_list : {A : Type 0} (xs : List A) → map (λ x. x) xs ≡ xs
same_list [] = refl
same_list (x ∷ xs) = ap (λ l. x ∷ l) (same_list xs)

pub same_steps : (c : Clock) → map (renamed_step node_frame) c ≡ c
same_steps [] = refl
same_steps (s ∷ c) = ap (λ (l : Clock). s ∷ l) (same_steps c)

-- an equation, with the names that the node's frame gives
pub plainly : (clock : Name → Clock) (p : Place) (left : List Name) (r : Expr) →
    record { place = p; left = map node_frame.variable left; clock = record { steps = [] ++ map (renamed_step node_frame) (clock_of_left clock left) }; right = r; resets = [] } ≡ core_equation p left (clock_of_left clock left) r
plainly clock p left r =
    ap (λ (l : List Name). record { place = p; left = l; clock = record { steps = map (renamed_step node_frame) (clock_of_left clock left) }; right = r; resets = [] }) (same_list left)
    ∙ ap (λ (c : Clock). core_equation p left c r) (same_steps (clock_of_left clock left))

pub plain_define : (clock : Name → Clock) (n m : ℕ) (p : Place) (left : List Name) (right r : Expr) → Lowers node_frame n right r m →
    LowersEquation node_frame clock n (equation.Define p left right) (core_equation p left (clock_of_left clock left) r ∷ []) m
plain_define clock n m p left right r h =
    subst (λ (e : CoreEquation). LowersEquation node_frame clock n (equation.Define p left right) (e ∷ []) m) (plainly clock p left r) (define h)

-- ---- one more

pub expr_more : (f : Frame) (n m k : ℕ) (es rs : List Expr) (e r : Expr) → LowersAll f n es rs m → Lowers f m e r k → LowersAll f n (es ++ e ∷ []) (rs ++ r ∷ []) k
expr_more f n m k _ _ e r no_exprs h = more_exprs h no_exprs
expr_more f n m k _ _ e r (more_exprs l ls) h = more_exprs l (expr_more f _ m k _ _ e r ls h)

pub branch_more : (f : Frame) (n m k : ℕ) (bs cs : List MergeBranch) (p : Place) (tag : Tag) (e r : Expr) → LowersBranches f n bs cs m → Lowers f m e r k →
    LowersBranches f n (bs ++ branch p tag e ∷ []) (cs ++ branch p tag r ∷ []) k
branch_more f n m k _ _ p tag e r no_branches h = more_branches h no_branches
branch_more f n m k _ _ p tag e r (more_branches l ls) h = more_branches l (branch_more f _ m k _ _ p tag e r ls h)

pub equation_more : (f : Frame) (clock : Name → Clock) (n m k : ℕ) (es : List Equation) (cs : List CoreEquation) (e : Equation) (d : CoreEquation) → LowersEquations f clock n es cs m →
    LowersEquation f clock m e (d ∷ []) k → LowersEquations f clock n (es ++ e ∷ []) (cs ++ d ∷ []) k
equation_more f clock n m k _ _ e d no_equations h = more_equations h no_equations
equation_more f clock n m k _ _ e d (more_equations (define {p = p} l) ls) h = more_equations (define l) (equation_more f clock _ m k _ _ e d ls h)

pub node_more : (clock : ℕ → Name → Clock) (j k : ℕ) (nodes : List Node) (lows : List CoreNode) (node : Node) (low : CoreNode) → LowersNodes clock j nodes lows → k ≡ j + length nodes →
    LowersNode (clock k) node low → LowersNodes clock j (nodes ++ node ∷ []) (lows ++ low ∷ [])
node_more clock j k _ _ node low no_nodes e h = let f : k ≡ j = omega arith in more_nodes (subst (λ (i : ℕ). LowersNode (clock i) node low) f h) no_nodes
node_more clock j k _ _ node low (more_nodes {nodes = nodes} {lows = lows} l ls) e h = let f : k ≡ suc j + length nodes = omega arith in more_nodes l (node_more clock (suc j) k nodes lows node low ls f h)
