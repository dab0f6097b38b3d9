-- Equations and nodes of the core, one more at a time.
use Rattle.std.proofs.Common.{◌≡◌, ℕ, zero, suc, ◌+◌, ◌<◌, ◌≤◌, List, [], ◌∷◌, ◌++◌, get_or, length, take, refl, sym, subst, ap, ◌∙◌, arith}
use Rattle.hept_ast.specs.Texts.{Name}
use Rattle.hept_ast.specs.Scopes.{Clock}
use Rattle.hept_ast.specs.declared.name.Place.{Place}
use Rattle.hept_ast.specs.declared.tree.Expr.{Expr}
use Rattle.hept_ast.specs.declared.tree.Equation.{Equation}
use Rattle.hept_ast.specs.declared.tree.Equation.TheVariants as equation
use Rattle.hept_ast.specs.declared.tree.Node.{Node}
use Rattle.hept_ast.specs.declared.tree.CoreNode.{CoreNode}
use Rattle.hept_ast.specs.declared.tree.CoreEquation.{CoreEquation}
use Rattle.lowering_rules.specs.Lowering.{node_frame, clock_of_left, Lowers, LowersEquation, LowersEquations, no_equations, LowersNode, LowersNodes, no_nodes}
use Rattle.lowering_rules.specs.Ties.{core_equation}
use Rattle.lowering_rules.proofs.Steps.{plain_define, equation_more, node_more}
use Rattle.reset_lowering.proofs.Forms.{one_more, whole}

pub lowers_define : (clock : Name → Clock) (n m : ℕ) (e : Equation) (d : CoreEquation) (p : Place) (left all xs : List Name) (right r : Expr) (c : Clock) → e ≡ equation.Define p left right → d ≡ core_equation p xs c r →
    xs ≡ all → c ≡ clock_of_left clock all → Lowers node_frame n right r m → all ≡ left → LowersEquation node_frame clock n e (d ∷ []) m
lowers_define clock n m e d p left all xs right r c is out copied on h whole_left =
    let same : xs ≡ left = copied ∙ whole_left in
    let here : c ≡ clock_of_left clock left = on ∙ ap (λ (l : List Name). clock_of_left clock l) whole_left in
    let as_made : d ≡ core_equation p left (clock_of_left clock left) r =
    out ∙ (ap (λ (l : List Name). core_equation p l c r) same ∙ ap (λ (k : Clock). core_equation p left k r) here) in
    subst (λ (x : Equation). LowersEquation node_frame clock n x (d ∷ []) m) (sym is)
    (subst (λ (x : CoreEquation). LowersEquation node_frame clock n (equation.Define p left right) (x ∷ []) m) (sym as_made) (plain_define clock n m p left right r h))

pub no_equations_yet : (clock : Name → Clock) (cs : List CoreEquation) → cs ≡ [] → LowersEquations node_frame clock 0 [] cs 0
no_equations_yet clock cs h = subst (λ (l : List CoreEquation). LowersEquations node_frame clock 0 [] l 0) (sym h) no_equations

pub next_equation : (clock : Name → Clock) (n m k : ℕ) (es : List Equation) (cs all : List CoreEquation) (i : ℕ) (e : Equation) (d : CoreEquation) → LowersEquations node_frame clock n (take i es) cs m →
    e ≡ get_or es i e → i < length es → LowersEquation node_frame clock m e (d ∷ []) k → all ≡ cs ++ d ∷ [] → LowersEquations node_frame clock n (take (i + 1) es) all k
next_equation clock n m k es cs all i e d before is below h out =
    subst (λ (l : List CoreEquation). LowersEquations node_frame clock n (take (i + 1) es) l k) (sym out)
    (subst (λ (l : List Equation). LowersEquations node_frame clock n l (cs ++ d ∷ []) k) (one_more es i e below is) (equation_more node_frame clock n m k (take i es) cs e d before h))

pub all_equations : (clock : Name → Clock) (n m : ℕ) (es : List Equation) (cs : List CoreEquation) (i : ℕ) → length es ≤ i → LowersEquations node_frame clock n (take i es) cs m → LowersEquations node_frame clock n es cs m
all_equations clock n m es cs i past h = subst (λ (l : List Equation). LowersEquations node_frame clock n l cs m) (whole es i past) h

pub no_nodes_yet : (clock : ℕ → Name → Clock) (lows : List CoreNode) → lows ≡ [] → LowersNodes clock 0 [] lows
no_nodes_yet clock lows h = subst (λ (l : List CoreNode). LowersNodes clock 0 [] l) (sym h) no_nodes

taken : {A : Type 0} (xs : List A) (i : ℕ) → i < length xs → length (take i xs) ≡ i
taken [] i below = absurd (omega arith)
taken (x ∷ xs) zero below = refl
taken (x ∷ xs) (suc i) below = ap suc (taken xs i (omega arith))

pub next_node : (clock : ℕ → Name → Clock) (nodes : List Node) (lows all : List CoreNode) (i k : ℕ) (node : Node) (low : CoreNode) → k ≡ i → LowersNodes clock 0 (take i nodes) lows → node ≡ get_or nodes i node →
    i < length nodes → LowersNode (clock k) node low → all ≡ lows ++ low ∷ [] → LowersNodes clock 0 (take (i + 1) nodes) all
next_node clock nodes lows all i k node low here before is below h out =
    let size = taken nodes i below in
    let at_end : k ≡ 0 + length (take i nodes) = omega (arith, here, size) in
    subst (λ (l : List CoreNode). LowersNodes clock 0 (take (i + 1) nodes) l) (sym out)
    (subst (λ (l : List Node). LowersNodes clock 0 l (lows ++ low ∷ [])) (one_more nodes i node below is) (node_more clock 0 k (take i nodes) lows node low before at_end h))

pub all_nodes : (clock : ℕ → Name → Clock) (nodes : List Node) (lows : List CoreNode) (i : ℕ) → length nodes ≤ i → LowersNodes clock 0 (take i nodes) lows → LowersNodes clock 0 nodes lows
all_nodes clock nodes lows i past h = subst (λ (l : List Node). LowersNodes clock 0 l lows) (whole nodes i past) h
